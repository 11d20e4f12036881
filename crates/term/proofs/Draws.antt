-- Laws of printing a constraint: one for each way that the code goes.
use mathlib.Core.Path.{◌≡◌, refl, sym, ap, ◌∙◌}
use mathlib.Core.List.{List, ◌∷◌}
use Prim.Native.Nat.{ℕ, zero, suc, ◌-◌}
use native.Mathlib.Numerals.{sub-one}
use Rattle.std.specs.Prelude.{Ok, Err}
use Rattle.reply.specs.declared.Refusal.{Refusal}
use Rattle.reply.specs.Then.{go_on, went, no_err, same-read}
use Rattle.meaning.specs.Constraint.{Constraint, truth, at_most, equal, not, and, or, remainder}
use Rattle.cursor.specs.declared.Cursor.{Cursor}
use Rattle.cursor.specs.declared.Comparison.{Comparison}
use Rattle.cursor.specs.declared.Comparison.TheVariants.{AtMost, Equal}
use Rattle.cursor.specs.declared.Remains.{Remains}
use Rattle.cursor.specs.declared.Node.{Node}
use Rattle.cursor.specs.declared.Node.TheVariants as nodes
use Rattle.cursor.specs.Steps.{Read, byte_at, node_at}
use Rattle.cursor.specs.Tree.{sum_of, joined, grow, tree_at}
use Rattle.cursor.specs.Sound.{IsTree}
use Rattle.cursor.specs.Meaning.{tree_of, tree_in}
use Rattle.sexp.specs.Bytes.{bytes}
use Rattle.sexp.specs.Sexp.{word, list, end, ◌&◌, onto}
use Rattle.put.specs.declared.Printer.{Printer}
use Rattle.put.specs.Shows.{Wrote, Shows}
use Rattle.put.proofs.Laws.{join, one}
use Rattle.script.specs.Terms.{constraint}
use Rattle.term.specs.declared.Rule.{Rule}
use Rattle.term.specs.Drawn.{compared_of, remains_of, Drawn, DrawnTwo}

-- what is read is t, and reading ends at c
drawn : {k : ℕ} {p q : Printer} {next : Cursor} (t : Constraint) (c : Cursor) → next ≡ c → Shows p q (constraint k t) → Drawn k (Ok (t, c)) p q next
drawn t c n u = record { holds = λ t' c' y. let (same, ends) = same-read y in (rw same at u, n ∙ ends) }

-- nothing is read
undrawn : {k : ℕ} {p q : Printer} {next : Cursor} (y : Read Constraint) → ((t : Constraint) (c : Cursor) → y ≡ Ok (t, c) → ⊥) → Drawn k y p q next
undrawn y n = record { holds = λ t c e. absurd (n t c e) }

module _ (k : ℕ) (s : List ℕ) (v depth : ℕ) (c : Cursor) {p q : Printer} {last : Cursor} where
  pub draw-none : depth ≡ 0 → Drawn k (tree_at s v depth c) p q last
  unfolding tree_at
  draw-none h = rw h (undrawn _ (λ t f e. went (byte_at s c) _ _ no_err e (λ _ _ z. no_err _ z)))

  pub draw-refused : {y : Read Node} {f : Refusal} → (depth ≡ 0 → ⊥) → y ≡ node_at s v c → y ≡ Err f → Drawn k (tree_at s v depth c) p q last
  unfolding tree_at go_on
  draw-refused {y} {f} h a b = by-depth depth h
    where
      by-depth : (n : ℕ) → (n ≡ 0 → ⊥) → Drawn k (tree_at s v n c) p q last
      by-depth zero h = absurd (h refl)
      by-depth (suc n) h = rw (sym a ∙ b) (undrawn _ (λ t g z. no_err _ z))

  pub draw-node : {y : Read Node} {n : Node} {next : Cursor} → (depth ≡ 0 → ⊥) → y ≡ node_at s v c → y ≡ Ok (n, next) →
      Drawn k (grow s v n (tree_at s v (depth - 1)) next) p q last → Drawn k (tree_at s v depth c) p q last
  unfolding tree_at go_on
  draw-node {y} {n} {next} h a b u = by-depth depth h u
    where
      by-depth : (j : ℕ) → (j ≡ 0 → ⊥) → Drawn k (grow s v n (tree_at s v (j - 1)) next) p q last → Drawn k (tree_at s v j c) p q last
      by-depth zero h u = absurd (h refl)
      by-depth (suc j) h u = rw (sym a ∙ b) (rw sub-one at u)

-- what is printed of node n, where `read` is how its parts are read
abbrev Draws : Rule → Node → (Cursor → Read Constraint) → Cursor → Printer → Printer → Cursor → Type 0
Draws r n read c p q last = Drawn r.clause (grow r.bytes.now r.variables n read c) p q last

module _ (r : Rule) (n : Node) (read : Cursor → Read Constraint) (c : Cursor) {p q : Printer} {last : Cursor} where
  pub draw-true : n ≡ nodes.True → Wrote p q (bytes "true") → last ≡ c → Draws r n read c p q last
  unfolding grow constraint onto
  draw-true h u e = rw h (drawn truth c e (record { text = u }))

  pub draw-compare : {x : Comparison} → n ≡ nodes.Compare x → Shows p q (compared_of r x) → last ≡ c → Draws r n read c p q last
  unfolding grow constraint compared_of
  draw-compare {x} h u e = rw h (by x u)
    where
      by : (x : Comparison) → Shows p q (compared_of r x) → Drawn r.clause (grow r.bytes.now r.variables (nodes.Compare x) read c) p q last
      by (AtMost a) u = drawn (at_most (sum_of r.bytes.now r.variables a.at)) c e u
      by (Equal a) u = drawn (equal (sum_of r.bytes.now r.variables a.at)) c e u

  pub draw-remains : {m : Remains} → n ≡ nodes.Remainder m → Shows p q (remains_of r m) → last ≡ c → Draws r n read c p q last
  unfolding grow constraint remains_of
  draw-remains {m} h u e = rw h (drawn (remainder (sum_of r.bytes.now r.variables m.sum.at) m.d m.r) c e u)

  pub draw-not : {a b : Printer} {end : Cursor} → n ≡ nodes.Not → Wrote p a (bytes "(not ") → Drawn r.clause (read c) a b end → Wrote b q (bytes ")") → last ≡ end → Draws r n read c p q last
  unfolding grow go_on constraint onto
  draw-not h u x z e = rw h (record {
    holds = λ t' c' y. went (read c) _ _ no_err y (λ (t, i) y₁ y₂.
        let (shown, ends) = x.holds t i y₁ in
        (drawn (not t) i (e ∙ ends) (record { text = join u (one shown z) })).holds t' c' y₂);
  })

  -- two parts under the word that joins them
  module _ {a : Printer} (j : Constraint → Constraint → Constraint) (head : List ℕ)
      (says : (t u : Constraint) → constraint r.clause (j t u) ≡ list (word head & constraint r.clause t & constraint r.clause u & end)) where
    draw-two : Wrote p a (40 ∷ head) → DrawnTwo r.clause read c a q last → Drawn r.clause (joined j read c) p q last
    unfolding go_on onto
    draw-two u x = record {
      holds = λ t' c' y. went (read c) _ _ no_err y (λ (t, i) y₁ y₂. went (read i) _ _ no_err y₂ (λ (t₂, i₂) y₃ y₄.
          let (shown, ends) = x.holds t t₂ i i₂ y₁ y₃ in
          (drawn (j t t₂) i₂ ends (rw (says t t₂) (record { text = join u shown }))).holds t' c' y₄));
    }

  pub draw-and : {a : Printer} → n ≡ nodes.And → Wrote p a (bytes "(and") → DrawnTwo r.clause read c a q last → Draws r n read c p q last
  unfolding grow constraint
  draw-and h u x = rw h (draw-two and (bytes "and") (λ t u. refl) u x)

  pub draw-or : {a : Printer} → n ≡ nodes.Or → Wrote p a (bytes "(or") → DrawnTwo r.clause read c a q last → Draws r n read c p q last
  unfolding grow constraint
  draw-or h u x = rw h (draw-two or (bytes "or") (λ t u. refl) u x)

pub ruleset draws = (draw-none, draw-refused, draw-node, draw-true, draw-compare, draw-remains, draw-not, draw-and, draw-or)

-- two parts, each where the one before it ended
pub drawn-two : (k : ℕ) (read : Cursor → Read Constraint) (c : Cursor) {p₀ p₁ p₂ p₃ p₄ p₅ : Printer} {mid last : Cursor} →
    Wrote p₀ p₁ (bytes " ") → Drawn k (read c) p₁ p₂ mid → Wrote p₂ p₃ (bytes " ") → Drawn k (read mid) p₃ p₄ last →
    Wrote p₄ p₅ (bytes ")") → DrawnTwo k read c p₀ p₅ last
unfolding onto
drawn-two k read c u x v y z = record {
  holds = λ t t₂ f g y₁ y₂.
      let (first, ends) = x.holds t f y₁ in
      let (second, last) = y.holds t₂ g (ap read ends ∙ y₂) in
      (join u (one first (join v (one second z))), last);
}

-- the constraint of a clause
pub drawn-tree : (k : ℕ) (s : List ℕ) (v at : ℕ) {p q : Printer} {last : Cursor} → IsTree s v at →
    Drawn k (tree_at s v 16 (record { at = at; left = 64 })) p q last → Shows p q (constraint k (tree_in s v at))
unfolding tree_in tree_of
drawn-tree k s v at i x = rw i.reads (x.holds i.tree i.end i.reads).0
