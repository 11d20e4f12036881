-- A clause record that was read in a list of bytes stands there, written, and keeps the limits.
use Rattle.std.specs.Prelude.{ℕ, suc, ◌+◌, ◌≤◌, ◌<◌, ◌≡◌, List, [], ◌∷◌, length, take, drop, Ok}
use native.Mathlib.Omega.{arith}
use Rattle.std.proofs.Math.Path.{refl, sym, ap}
use Rattle.std.proofs.Common.{◌∙◌, inl, inr, length-drop, length-take-le, get_or-take, get_or-drop, eq-eqb, ne_eqb}
use Rattle.std.proofs.Math.ListN.{get_or}
use Rattle.meaning.specs.Limits.{Each, AtomLimits, BodyLimits, ClauseLimits}
use Rattle.cursor.specs.declared.Cursor.{Cursor}
use Rattle.cursor.specs.declared.Clause.{Clause}
use Rattle.cursor.specs.Steps.{pick}
use Rattle.cursor.specs.Clause.{clause_at}
use Rattle.cursor.specs.Meaning.{atom_in, body_in, tree_of, tree_in, clause_in}
use Rattle.cursor.specs.Inverse.{at_of, IsByte, IsFact, IsBody, IsClause, clause-read}
use Rattle.encode.specs.Encode.{constraint_bytes, atom_bytes, body_bytes, clause_bytes}
use Rattle.encode.specs.Stands.{Stands, Bytes, is-stands}
use Rattle.encode.specs.WrittenTree.{Spans, spans-join, tree-written}

-- ---- parts of a list

pub each_of : (P : ℕ → Type 0) (l : List ℕ) → ((j : ℕ) → j < length l → P (get_or l j 0)) → Each P l
each_of P [] h = tt
each_of P (x ∷ l) h = (h 0 (omega arith), each_of P l (λ j k. h (suc j) (omega arith)))

module _ (s : List ℕ) (p k : ℕ) (fits : p + k ≤ length s) where
  pub part_length : length (take k (drop p s)) ≡ k
  part_length = length-take-le k (drop p s) (omega (arith, length-drop p s))

  pub part-spans : Spans s p (p + k) (take k (drop p s))
  part-spans =
      let n = part_length in
      record { stands = is-stands s p (take k (drop p s)) (omega arith) (rw n); past = rw n }

  pub part-each : (P : ℕ → Type 0) → ((j : ℕ) → j < k → P (get_or s (p + j) 0)) → Each P (take k (drop p s))
  part-each P h =
      let n = part_length in
      each_of P (take k (drop p s)) (λ j i. let b : j < k = omega arith in rw (get_or-take k (drop p s) j 0 b, get_or-drop p s j 0) (h j b))

module _ (s : List ℕ) where
  pub byte-spans : {c : Cursor} {b : ℕ} {e : Cursor} → IsByte s c b e → Spans s c.at e.at (b ∷ [])
  unfolding Stands
  byte-spans w = record { stands = (w.there, sym w.is, omega (arith, w)); past = at_of w.next }

  -- ---- atoms

  module _ (n v : ℕ) {c : Cursor} {b : ℕ} {e : Cursor} (w : IsFact s n v c b e) where
    atom-spans : Spans s c.at e.at (atom_bytes (atom_in s b c.at))
    unfolding atom_bytes atom_in
    atom-spans =
        let m : e.at ≡ c.at + 1 + get_or s b 0 = at_of w.next ∙ omega arith in
        rw m (spans-join (b ∷ []) _ (byte-spans {c = c} (record { there = w.there; is = w.is; next = refl }))
        (part-spans s (c.at + 1) (get_or s b 0) w.arguments.within))

    atom-limits : n ≤ length s → AtomLimits (take n s) v (atom_in s b c.at)
    unfolding atom_in
    atom-limits h =
        let a = w.arguments in
        record {
          there = rw (length-take-le n s h) w.below;
          full = part_length s (c.at + 1) (get_or s b 0) a.within ∙ sym (get_or-take n s b 0 w.below);
          known = part-each s (c.at + 1) (get_or s b 0) a.within (λ (i : ℕ). i < v) a.each;
        }

  module _ (n v : ℕ) {c : Cursor} {b : ℕ} {e : Cursor} where
    body-spans : IsBody s n v c b e → Spans s c.at e.at (body_bytes (body_in s b c.at))
    unfolding body_bytes body_in pick
    body-spans (inl (z, w)) = rw (eq-eqb b 255 z, ← z) (byte-spans w)
    body-spans (inr (z, w)) = rw (ne_eqb b 255 z) (atom-spans n v w)

    body-limits : n ≤ length s → IsBody s n v c b e → BodyLimits (take n s) v (body_in s b c.at)
    unfolding body_in pick
    body-limits h (inl (z, w)) = rw (eq-eqb b 255 z) tt
    body-limits h (inr (z, w)) = rw (ne_eqb b 255 z) (atom-limits n v w h)

-- ---- clauses

-- the clause that stands in s where its record l was read, from c to e
pub record IsWritten (s : List ℕ) (n : ℕ) (c : Cursor) (l : Clause) (e : Cursor) : Type 0 where
  pub word : Spans s c.at e.at (clause_bytes (clause_in s l))
  pub rule : Spans s l.rule e.at (constraint_bytes (clause_in s l).rule)
  pub limits : ClauseLimits (take n s) (clause_in s l)

module _ (s : List ℕ) (bytes : Bytes s) (n : ℕ) (h : n ≤ length s) (c : Cursor) {l : Clause} {e : Cursor} where
  written : IsClause s n c l e → IsWritten s n c l e
  unfolding clause_bytes clause_in tree_in tree_of
  written w =
      let p = w.parts in
      let v = l.variables in
      let t = tree-written s bytes v 16 _ w.reads in
      let tree : tree_in s v l.rule ≡ w.tree = ap tree_of w.reads in
      record {
        word = rw (p.body_at, p.head_at, tree) (spans-join (v ∷ []) _ (byte-spans s p.variables.here)
            (spans-join _ _ (body-spans s n v p.body) (spans-join _ _ (atom-spans s n v p.head) (rw p.rule at t.word))));
        rule = rw tree t.word;
        limits = record {
          few = omega (arith, p.variables.below);
          body = rw p.body_at (body-limits s n v h p.body);
          head = rw p.head_at (atom-limits s n v p.head h);
          rule = rw tree (record { numbers = t.keeps; few = omega (arith, t.count); shallow = t.shallow });
        };
      }

  pub clause-written : clause_at s n c ≡ Ok (l, e) → IsWritten s n c l e
  clause-written q = written (clause-read s n c q)
