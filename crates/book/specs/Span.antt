-- Where the constraint of a clause stands in the book, and that this part of the book is the constraint that is handed out.
use Rattle.std.specs.Prelude.{ℕ, ◌-◌, ◌≤◌, ◌≡◌, refl, Bool, true, false, List, [], length, take, drop, ltb, Ok, Err}
use Rattle.std.proofs.Common.{arith, sym, ap, ◌∙◌, length-take, length-drop, le-ltb}
use Rattle.cursor.specs.declared.Cursor.{Cursor}
use Rattle.reply.specs.declared.Refusal.{Refusal}
use Rattle.cursor.specs.Steps.{pick, value_then, Read}
use Rattle.cursor.specs.declared.Clause.{Clause}
use Rattle.cursor.specs.Clause.{clause_at}
use Rattle.cursor.specs.Sound.{clause-part}
use Rattle.book.specs.declared.Header.{Header}
use Rattle.book.specs.declared.Span.{Span}
use Rattle.book.specs.Read.{read, entry_at, part_at, constraint_of, Reading}
use Rattle.reply.specs.Then.{go_on}

abbrev pub absent : Span
absent = record { start = 0; end = 0 }

-- of the record at c
unfoldable pub span_at : List ℕ → ℕ → ℕ → Cursor → Span
span_at s start n c = go_on (clause_at (take start s) n c) (λ (l, past). record { start = l.rule; end = past.at }) (λ _. absent)

-- of clause k; 0 and 0 for a refused book or an absent clause
unfoldable pub span_of : List ℕ → ℕ → Span
span_of s k =
    go_on (read s)
    (λ h. pick (ltb k h.count) (value_then (entry_at s h.start k) λ c. span_at s h.start h.relations c) absent)
    (λ _. absent)

-- the part of s that p is, is t
pub record Spans (s : List ℕ) (p : Span) (t : List ℕ) : Type 0 where
  pub ordered : p.start ≤ p.end
  pub inside : p.end ≤ length s
  pub part : take (p.end - p.start) (drop p.start s) ≡ t

spans-none : (s : List ℕ) → Spans s absent []
spans-none s = record { ordered = omega arith; inside = omega arith; part = refl }

span-at : (s : List ℕ) (start n : ℕ) (c : Cursor) → Spans s (span_at s start n c) (part_at s start n c)
unfolding span_at part_at go_on
span-at s start n c = go (clause_at (take start s) n c) refl
  where
    go : (y : Read Clause) → clause_at (take start s) n c ≡ y →
        Spans s (go_on y (λ (l, past). record { start = l.rule; end = past.at }) (λ _. absent))
        (go_on y (λ (l, past). take (past.at - l.rule) (drop l.rule s)) (λ _. []))
    go (Ok (l, e)) q =
        let (a, b) = clause-part (take start s) n c l e refl q in
        record { ordered = a; inside = omega (arith, length-take start s); part = refl }
    go (Err r) q = spans-none s

-- its length
pub spans-length : {s : List ℕ} {p : Span} {t : List ℕ} → Spans s p t → p.end - p.start ≡ length t
spans-length {s} {p} w =
    let z : length (take (p.end - p.start) (drop p.start s)) ≡ p.end - p.start = simp (length-take, length-drop) (omega arith) in
    sym z ∙ ap length w.part

-- the law: the span's part of the book is the constraint of clause k
pub span-of : (s : List ℕ) (k : ℕ) → Spans s (span_of s k) (constraint_of s k)
unfolding span_of constraint_of go_on pick value_then
span-of s k = go (read s)
  where
    below : (h : Header) (t : Bool) →
        Spans s (pick t (span_at s h.start h.relations (entry_at s h.start k)) absent)
        (pick t (part_at s h.start h.relations (entry_at s h.start k)) [])
    below h true = span-at s h.start h.relations (entry_at s h.start k)
    below h false = spans-none s

    go : (y : Reading) →
        Spans s (go_on y (λ h. pick (ltb k h.count) (span_at s h.start h.relations (entry_at s h.start k)) absent) (λ _. absent))
        (go_on y (λ h. pick (ltb k h.count) (part_at s h.start h.relations (entry_at s h.start k)) []) (λ _. []))
    go (Ok h) = below h (ltb k h.count)
    go (Err r) = spans-none s

-- of a call's result p
pub spans-by : (s : List ℕ) (k : ℕ) {p : Span} → p ≡ span_of s k → Spans s p (constraint_of s k)
spans-by s k e = rw e (span-of s k)

-- a refused book, and an absent clause
pub span-refused : (s : List ℕ) (k : ℕ) (r : Refusal) → read s ≡ Err r → span_of s k ≡ absent
unfolding span_of go_on
span-refused s k r e = rw e

pub span-absent : (s : List ℕ) (k : ℕ) (h : Header) → read s ≡ Ok h → h.count ≤ k → span_of s k ≡ absent
unfolding span_of go_on pick
span-absent s k h e a = rw (e, le-ltb k h.count a)
