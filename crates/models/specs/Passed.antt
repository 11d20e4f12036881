-- What a model that was read through tells: its parts, where they start, and that each is a tree.
use Prim.Native.Nat.{ℕ, zero, suc, ◌+◌, ◌<◌, ◌≤◌}
use native.Mathlib.Omega.{arith}
use Rattle.std.specs.Prelude.{◌≡◌, Bool, set, eqb, Ok, Err}
use Rattle.std.proofs.Math.Path.{refl, ap}
use Rattle.std.proofs.Common.{sym, ◌∙◌}
use Rattle.std.proofs.Math.Bool.{true, false}
use mathlib.Core.List.{List, [], ◌∷◌}
use Rattle.std.proofs.Math.ListN.{length, get_or, length-set}
use Rattle.std.proofs.Math.Seq.{get_or-set_same, get_or-set_other}
use Rattle.meaning.specs.Constraint.{Constraint}
use Rattle.cursor.specs.declared.Cursor.{Cursor}
use Rattle.reply.specs.declared.Refusal.{Refusal}
use Rattle.reply.specs.Answer.{refuse}
use Rattle.cursor.specs.Steps.{pick, Step, Read}
use Rattle.cursor.specs.Tree.{moved, tree_at, tree-read}
use Rattle.cursor.specs.Meaning.{tree_of, tree_in}
use Rattle.cursor.specs.Sound.{IsTree}
use Rattle.models.specs.Read.{Part, in_model, rule_then, fresh, parts_at, model_in, rule_at, pass_at, starts_at}
use Rattle.models.specs.Answer.{no_part}
use Rattle.models.specs.Exact.{rule-went}
use Rattle.reply.specs.Then.{go_on, ◌>>=◌, go_on-by, no_err, went, same-read}

-- ---- the walk without trees answers the same

rule_moved : (y : Read Constraint) (f : Constraint → Cursor → Read (List Part)) (g : Cursor → Step) → ((t : Constraint) (d : Cursor) → moved (f t d) ≡ g d) →
    moved (rule_then y f) ≡ go_on (go_on (moved y) Ok (λ r. Err (in_model r))) g Err
unfolding moved rule_then go_on
rule_moved (Ok (t, d)) f g h = h t d
rule_moved (Err r) f g h = refl

then-moved : {A B : Type 0} (y : Read A) (f : A → B) → moved (y >>= λ (a, e). Ok (f a, e)) ≡ moved y
unfolding moved go_on
then-moved (Ok (a, c)) f = refl
then-moved (Err r) f = refl

module _ (s : List ℕ) where
  pub parts-pass : (ns : List ℕ) (c : Cursor) → moved (parts_at s ns c) ≡ pass_at s ns c
  unfolding parts_at pass_at rule_at moved pick
  parts-pass [] c = pick-moved (eqb c.at (length s))
    where
      pick-moved : (t : Bool) → moved {A = List Part} (pick t (Ok ([], c)) (Err (refuse 22 c.at))) ≡ pick t (Ok c) (Err (refuse 22 c.at))
      pick-moved true = refl
      pick-moved false = refl
  parts-pass (n ∷ ns) c =
      rw (← (tree-read s n 16 (fresh c)))
      (rule_moved (tree_at s n 16 (fresh c)) _ (pass_at s ns) (λ t d. then-moved (parts_at s ns d) _ ∙ parts-pass ns d))

  -- ---- the parts of a model

  -- the part p over n variables starts at `at`, and is the tree that stands there
  pub record IsPart (n at : ℕ) (p : Part) : Type 0 where
    pub start : at ≡ p.at
    pub tree : IsTree s n p.at
    pub is : p.rule ≡ tree_in s n p.at

  starts-keep : (ns : List ℕ) (k : ℕ) (c : Cursor) (l : List ℕ) (i : ℕ) → i < k → get_or (starts_at s ns k c l) i 0 ≡ get_or l i 0
  unfolding starts_at
  starts-keep [] k c l i h = refl
  starts-keep (n ∷ ns) k c l i h =
      let e : get_or (set l k c.at) i 0 ≡ get_or l i 0 = get_or-set_other l k i c.at 0 (λ z. omega arith) in
      go_on-by (λ (x : List ℕ). get_or x i 0 ≡ get_or l i 0) _ _ _ (λ d q. starts-keep ns (k + 1) d (set l k c.at) i (omega arith) ∙ e) (λ r q. e)

  rule-read : (n : ℕ) (c : Cursor) (t : Constraint) (d : Cursor) → tree_at s n 16 (fresh c) ≡ Ok (t, d) → rule_at s n c ≡ Ok d
  unfolding rule_at go_on moved
  rule-read n c t d q = rw (← (tree-read s n 16 (fresh c)), q)

  part-first : (n : ℕ) (c : Cursor) (t : Constraint) (d : Cursor) {at : ℕ} → tree_at s n 16 (fresh c) ≡ Ok (t, d) → at ≡ c.at → IsPart n at (record { at = c.at; rule = t })
  unfolding tree_in tree_of
  part-first n c t d q e = record { start = e; tree = record { tree = t; end = d; reads = q }; is = rw q }

  parts_from : (ns : List ℕ) (k : ℕ) (c : Cursor) (l : List ℕ) (ps : List Part) (e : Cursor) → parts_at s ns c ≡ Ok (ps, e) → k + length ns ≤ length l →
      (i : ℕ) → i < length ns → IsPart (get_or ns i 0) (get_or (starts_at s ns k c l) (k + i) 0) (get_or ps i no_part)
  unfolding parts_at starts_at go_on
  parts_from [] k c l ps e q h i b = absurd (let z : ⊥ = omega arith in z)
  parts_from (n ∷ ns) k c l ps e q h i b =
      rule-went _ _ q λ t d x y. went _ _ _ no_err y λ (us, f) z w.
      let same = (same-read w).0 in
      rw (rule-read n c t d x, ← same) (go t d x us (λ j m. parts_from ns (k + 1) d (set l k c.at) us f z (omega (arith, length-set l k c.at)) j m) i b)
    where
      go : (t : Constraint) (d : Cursor) → tree_at s n 16 (fresh c) ≡ Ok (t, d) → (us : List Part) →
          ((j : ℕ) → j < length ns → IsPart (get_or ns j 0) (get_or (starts_at s ns (k + 1) d (set l k c.at)) (k + 1 + j) 0) (get_or us j no_part)) →
          (i : ℕ) → i < suc (length ns) →
          IsPart (get_or (n ∷ ns) i 0) (get_or (starts_at s ns (k + 1) d (set l k c.at)) (k + i) 0) (get_or (record { at = c.at; rule = t } ∷ us) i no_part)
      go t d x us rest zero m =
          let o : k + 0 ≡ k = omega arith in
          part-first n c t d x (rw o (starts-keep ns (k + 1) d (set l k c.at) k (omega arith) ∙ get_or-set_same l k c.at 0 (omega arith)))
      go t d x us rest (suc j) m = let o : k + suc j ≡ k + 1 + j = omega arith in rw o (rest j (omega arith))

  module _ (ns : List ℕ) where
    abbrev first : Cursor
    first = record { at = 0; left = 0 }

    -- the starts that the code puts down are those of the parts
    pub parts-start : (l : List ℕ) (ps : List Part) (e : Cursor) → model_in s ns ≡ Ok (ps, e) → length ns ≤ length l → (i : ℕ) → i < length ns →
        IsPart (get_or ns i 0) (get_or (starts_at s ns 0 first l) i 0) (get_or ps i no_part)
    unfolding model_in
    parts-start l ps e q h i b =
        let o : 0 + i ≡ i = omega arith in
        rw o at (parts_from ns 0 first l ps e q (omega arith) i b)

    -- what the code's walk answers is what the model is
    pub pass-moved : {e : Cursor} → pass_at s ns first ≡ Ok e → (ps : List Part) × (model_in s ns ≡ Ok (ps, e))
    unfolding model_in moved
    pass-moved {e} q = go (parts_at s ns first) (parts-pass ns first ∙ q)
      where
        go : (y : Read (List Part)) → moved y ≡ Ok e → (ps : List Part) × (y ≡ Ok (ps, e))
        go (Ok (ps, d)) z = let same : d ≡ e = cc in (ps, ap (λ (c : Cursor). Ok (ps, c)) same)
        go (Err r) z = absurd (no_err r z)

    pub pass-refused : {r : Refusal} → pass_at s ns first ≡ Err r → model_in s ns ≡ Err r
    unfolding model_in moved
    pass-refused {r} q = go (parts_at s ns first) (parts-pass ns first ∙ q)
      where
        go : (y : Read (List Part)) → moved y ≡ Err r → y ≡ Err r
        go (Ok (ps, d)) z = absurd (no_err r (sym z))
        go (Err f) z = let same : f ≡ r = cc in ap Err same
