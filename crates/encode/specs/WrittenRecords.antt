-- The arities, the records and the index that were read stand there, written.
use Prim.Native.Nat.{ℕ, zero, suc, ◌+◌, ◌*◌, ◌≤◌}
use native.Mathlib.Omega.{arith}
use Rattle.std.specs.Prelude.{◌≡◌, List, [], ◌∷◌, take, Ok}
use Rattle.std.proofs.Common.{◌∙◌, get_or-take, eqb-true}
use Rattle.std.proofs.Math.Path.{ap}
use Rattle.std.proofs.Math.ListN.{length, length-take}
use Rattle.std.proofs.Math.Seq.{length-take-le}
use Rattle.whole.specs.Bytes.{u16_at, u16_bytes}
use Rattle.meaning.specs.Book as meant
use Rattle.meaning.specs.Limits.{Each, ClauseLimits}
use Rattle.cursor.specs.declared.Cursor.{Cursor}
use Rattle.cursor.specs.declared.Clause.{Clause}
use Rattle.cursor.specs.Clause.{clause_at}
use Rattle.cursor.specs.Meaning.{clause_in, clause_or}
use Rattle.cursor.specs.Inverse.{pick-then}
use Rattle.book.specs.Read.{record_at, clauses_at}
use Rattle.book.specs.Meaning.{up_to}
use Rattle.encode.specs.Encode.{spell, clause_bytes, starts}
use Rattle.encode.specs.Stands.{Stands, Bytes}
use Rattle.encode.specs.WrittenTree.{Spans, spans-join, u16-spans}
use Rattle.encode.specs.WrittenClause.{clause-written}
use Rattle.reply.specs.Then.{went, no_err}

pub bytes-front : (s : List ℕ) (j : ℕ) → Bytes s → Bytes (take j s)
bytes-front s j b = record {
  below = λ i h. rw (get_or-take j s i 0 (omega (arith, length-take j s))) (b.below i (omega (arith, length-take j s)));
}

-- ---- the records, and the index of where they start

module _ (s : List ℕ) (bytes : Bytes s) (start n : ℕ) where
  record-went : (p : ℕ) (c : Cursor) {e : Cursor} {Q : Type 0} → record_at s start n p c ≡ Ok e →
      (c.at ≡ u16_at s p → (l : Clause) → clause_at (take start s) n (record { at = c.at; left = 0 }) ≡ Ok (l, e) → Q) → Q
  unfolding record_at
  record-went p c {e} q k =
      pick-then _ _ _ (no_err _) q λ t q.
      went _ _ _ no_err q λ (l, d) x y.
      let same : d ≡ e = cc in
      k (eqb-true _ _ t) l (x ∙ ap (λ (c : Cursor). Ok (l, c)) same)

  -- the clauses from q up to the index, and their k entries from p on
  pub record AreWritten (k p q : ℕ) (cs : List meant.Clause) : Type 0 where
    pub words : Spans (take start s) q start (spell clause_bytes cs)
    pub index : Spans s p (p + k * 2) (spell u16_bytes (starts q cs))
    pub limits : Each (ClauseLimits (take n (take start s))) cs

  no-clauses : (p q : ℕ) → q ≡ start → start ≤ length s → p ≤ length s → AreWritten 0 p q []
  unfolding spell starts Stands
  no-clauses p q e h k = record {
    words = record { stands = omega (arith, length-take start s); past = omega arith };
    index = record { stands = omega arith; past = omega arith };
    limits = tt;
  }

  more-clauses : (k p q r : ℕ) (x : meant.Clause) (cs : List meant.Clause) → q ≡ u16_at s p → p + suc k * 2 ≤ length s → Spans (take start s) q r (clause_bytes x) →
      ClauseLimits (take n (take start s)) x → AreWritten k (p + 2) r cs → AreWritten (suc k) p q (x ∷ cs)
  unfolding spell starts
  more-clauses k p q r x cs e room w l a =
      let z : p + suc k * 2 ≡ p + 2 + k * 2 = omega arith in
      record {
        words = spans-join (clause_bytes x) (spell clause_bytes cs) w a.words;
        index = rw (z, ← w.past) (spans-join {q = p + 2} (u16_bytes q) _ (rw e (u16-spans s bytes p (omega arith))) a.index);
        limits = (l, a.limits);
      }

  pub clauses-written : (k p : ℕ) (c : Cursor) {e : Cursor} (f : ℕ → meant.Clause) →
      ((i : ℕ) → f i ≡ clause_or (take start s) (clause_at (take start s) n (record { at = u16_at s (p + i * 2); left = 0 }))) →
      n ≤ start → start ≤ length s → p + k * 2 ≤ length s → clauses_at k s start n p c ≡ Ok e → AreWritten k p c.at (up_to k f)
  unfolding clauses_at up_to clause_or
  clauses-written zero p c f is m h room q =
      pick-then _ _ _ (no_err _) q λ t _. no-clauses p c.at (eqb-true _ _ t) h (omega arith)
  clauses-written (suc k) p c f is m h room q =
      went _ _ _ no_err q λ e x y.
      record-went p c x λ t l w.
      let front : length (take start s) ≡ start = length-take-le start s h in
      let z : p + 0 * 2 ≡ p = omega arith in
      let one : f 0 ≡ clause_in (take start s) l = is 0 ∙ rw (z, ← t, w) in
      let r = clause-written (take start s) (bytes-front s start bytes) n (omega arith) _ w in
      more-clauses k p c.at e.at (f 0) _ t room (rw one r.word) (rw one r.limits)
      (clauses-written k (p + 2) e (λ i. f (suc i))
      (λ i. let j : p + suc i * 2 ≡ p + 2 + i * 2 = omega arith in rw (← j) (is (suc i))) m h (omega arith) y)
