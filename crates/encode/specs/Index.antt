-- The arities, and the records with their index, on what stands.
use Prim.Native.Nat.{ℕ, suc, ◌+◌, ◌-◌, ◌*◌, ◌≤◌}
use native.Mathlib.Omega.{arith}
use Rattle.std.specs.Prelude.{◌≡◌, Bool, take, Ok}
use Rattle.std.proofs.Math.Path.{refl, sym, ap}
use Rattle.std.proofs.Common.{◌∙◌}
use Rattle.std.proofs.Math.Bool.{true, false}
use mathlib.Core.List.{List, [], ◌∷◌}
use Rattle.std.proofs.Math.ListN.{length, get_or, length-append}
use Rattle.std.proofs.Math.Dec.{eqb}
use borrow.Author.Tests.{le-leb, eq-eqb, eqb-true}
use Rattle.whole.specs.Bytes.{u16_at, u16_bytes}
use Rattle.meaning.specs.Book as meant
use Rattle.meaning.specs.Limits.{Each, nodes, ClauseLimits}
use Rattle.cursor.specs.declared.Cursor.{Cursor}
use Rattle.cursor.specs.Steps.{pick, value_then}
use Rattle.cursor.specs.Clause.{clause_at}
use Rattle.cursor.specs.Meaning.{clause_or}
use Rattle.book.specs.Read.{top_arity, arity_at, arities_at, record_at, clauses_at}
use Rattle.book.specs.Meaning.{up_to}
use Rattle.encode.specs.Encode.{spell, clause_bytes, starts}
use Rattle.encode.specs.Stands.{Stands, stands-split}
use Rattle.encode.specs.Digits.{u16-length, u16-read}
use Rattle.encode.specs.Reads.{at, byte-read}
use Rattle.encode.specs.Records.{Parts, parts-stand, clause-read, clause-is}
use Rattle.reply.specs.Then.{go_on}

-- ---- arities

module _ (s : List ℕ) (q : ℕ) (nullary : get_or s q 0 ≡ 0) where
  top-arity : (i a : ℕ) → get_or s i 0 ≡ a → a ≤ 8 → a ≤ top_arity q i
  unfolding top_arity pick
  top-arity i a h k = go (eqb i q) refl
    where
      go : (t : Bool) → eqb i q ≡ t → a ≤ pick t 0 8
      go true e = let z : a ≡ 0 = sym h ∙ ap (λ (j : ℕ). get_or s j 0) (eqb-true i q e) ∙ nullary in omega arith
      go false e = k

  pub arities-read : (i l : ℕ) (ns : List ℕ) → Each (λ (n : ℕ). n ≤ 8) ns → Stands s i ns → arities_at (length ns) s q (at i l) ≡ Ok (at (i + length ns) l)
  unfolding Stands arities_at arity_at go_on value_then pick
  arities-read i l [] f h = let e : i + 0 ≡ i = omega arith in rw e
  arities-read i l (a ∷ ns) f h =
      let e : i + suc (length ns) ≡ i + 1 + length ns = omega arith in
      rw (byte-read s i l h.0 h.1, le-leb a (top_arity q i) (top-arity i a h.1 f.0), e) (arities-read (i + 1) l ns f.1 h.2)

-- ---- records and index

-- each of cs stands, the first at p in a front of s, and the index from q on says where
abbrev pub Rows : List ℕ → List ℕ → ℕ → ℕ → List meant.Clause → Type 0
Rows front s p q [] = Unit {0}
Rows front s p q (c ∷ cs) = Parts front p c × (u16_at s q ≡ p) × Rows front s (p + length (clause_bytes c)) (q + 2) cs

pub rows-stand : (front s : List ℕ) (p q : ℕ) (cs : List meant.Clause) → Stands front p (spell clause_bytes cs) → Stands s q (spell u16_bytes (starts p cs)) →
    Rows front s p q cs
unfolding spell starts
rows-stand front s p q [] h i = tt
rows-stand front s p q (c ∷ cs) h i =
    let next = p + length (clause_bytes c) in
    let x = stands-split front p (clause_bytes c) (spell clause_bytes cs) h in
    let y = stands-split s q (u16_bytes p) (spell u16_bytes (starts next cs)) i in
    (parts-stand front p c x.0, u16-read s q p y.0, rows-stand front s next (q + 2) cs x.1 (rw (u16-length p) at y.1))

module _ (s arities : List ℕ) (start : ℕ) (few : length arities ≤ 16) (front : Stands (take start s) 0 arities) where
  pub records-read : (p q l : ℕ) (cs : List meant.Clause) → Each (ClauseLimits arities) cs → Rows (take start s) s p q cs →
      p + length (spell clause_bytes cs) ≡ start → (c : Cursor) × (clauses_at (length cs) s start (length arities) q (at p l) ≡ Ok c)
  unfolding spell clauses_at record_at pick go_on
  records-read p q l [] lim h e = (at p l, rw (eq-eqb p start (omega arith)))
  records-read p q l (c ∷ cs) lim h e =
      let whole = length-append (clause_bytes c) (spell clause_bytes cs) in
      let r = records-read (p + length (clause_bytes c)) (q + 2) (64 - nodes c.rule) cs lim.1 h.2 (omega arith) in
      (r.0, rw (eq-eqb p (u16_at s q) (sym h.1), clause-read (take start s) arities few front p c lim.0 h.0 0) r.1)

  -- f k is what stands where entry k says
  pub records-are : (p q : ℕ) (cs : List meant.Clause) (f : ℕ → meant.Clause) → Each (ClauseLimits arities) cs → Rows (take start s) s p q cs →
      ((k : ℕ) → f k ≡ clause_or (take start s) (clause_at (take start s) (length arities) (at (u16_at s (q + k * 2)) 0))) → up_to (length cs) f ≡ cs
  unfolding up_to clause_or
  records-are p q [] f lim h e = refl
  records-are p q (c ∷ cs) f lim h e =
      let z : q + 0 * 2 ≡ q = omega arith in
      let next : (k : ℕ) → q + suc k * 2 ≡ q + 2 + k * 2 = λ k. omega arith in
      let rest = records-are (p + length (clause_bytes c)) (q + 2) cs (λ k. f (suc k)) lim.1 h.2 (λ k. rw (← (next k)) (e (suc k))) in
      rw (e 0, z, h.1, clause-read (take start s) arities few front p c lim.0 h.0 0, clause-is (take start s) arities few front p c lim.0 h.0, rest)
