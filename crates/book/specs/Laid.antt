-- Where the parts of an accepted book's record stand: each follows from the bytes before it, with nothing left to judge.
use Rattle.std.specs.Prelude.{ℕ, ◌+◌, ◌<◌, ◌≤◌, ◌≡◌, refl, List, length, get_or, take, eqb, Ok}
use Rattle.std.proofs.Common.{arith, sym, ap, ◌∙◌, inl, inr, get_or-take, eq-eqb, ne_eqb}
use Rattle.whole.specs.Bytes.{front-byte}
use Rattle.cursor.specs.declared.Cursor.{Cursor}
use Rattle.cursor.specs.declared.Clause.{Clause}
use Rattle.cursor.specs.Steps.{pick}
use Rattle.cursor.specs.Inverse.{IsBody, IsParts, at_of, clause-read}
use Rattle.book.specs.declared.Header.{Header}
use Rattle.book.specs.Read.{read, entry_at}
use Rattle.book.specs.Joined.{Held, held, record-read}
use Rattle.book.specs.Trailer.{read-trailed}

-- past the arguments of the relation r, whose number stands at p; 255 has none
unfoldable pub past_arguments : List ℕ → ℕ → ℕ → ℕ
past_arguments s p r = pick (eqb r 255) (p + 1) (p + 1 + get_or s r 0)

-- the record that begins at p
abbrev pub record_of : List ℕ → ℕ → Clause
record_of s p =
    let body = get_or s (p + 1) 0 in
    let seat = past_arguments s (p + 1) body in
    let head = get_or s seat 0 in
    record { variables = get_or s p 0; body = body; body_at = p + 1; head = head; head_at = seat; rule = past_arguments s seat head }

pub past-none : (s : List ℕ) (p r : ℕ) → r ≡ 255 → past_arguments s p r ≡ p + 1
unfolding past_arguments pick
past-none s p r e = rw (eq-eqb r 255 e)

pub past-some : (s : List ℕ) (p r : ℕ) → (r ≡ 255 → ⊥) → past_arguments s p r ≡ p + 1 + get_or s r 0
unfolding past_arguments pick
past-some s p r e = rw (ne_eqb r 255 e)

-- the bytes that tell where its parts stand are there
pub record Room (s : List ℕ) (p : ℕ) : Type 0 where
  pub first : p + 1 < length s
  pub body : (get_or s (p + 1) 0 ≡ 255 → ⊥) → get_or s (p + 1) 0 < length s
  pub seat : past_arguments s (p + 1) (get_or s (p + 1) 0) < length s
  pub head : get_or s (past_arguments s (p + 1) (get_or s (p + 1) 0)) 0 < length s

-- of the place q that was found for the head, and r for the constraint
module _ (s : List ℕ) (p : ℕ) {q : ℕ} where
  pub head-room : Room s p → q ≡ past_arguments s (p + 1) (get_or s (p + 1) 0) → (q < length s) × ((get_or s q 0 ≡ 255 → ⊥) → get_or s q 0 < length s)
  head-room w e = rw e (w.seat, λ _. w.head)

  pub record_is : {r : ℕ} → q ≡ past_arguments s (p + 1) (get_or s (p + 1) 0) → r ≡ past_arguments s q (get_or s q 0) →
      record { variables = get_or s p 0; body = get_or s (p + 1) 0; body_at = p + 1; head = get_or s q 0; head_at = q; rule = r } ≡ record_of s p
  record_is d e = rw (e, d) refl

-- of the front of s up to the index, where n relations stand
module _ (s : List ℕ) (start n : ℕ) (room : n ≤ start) (few : n ≤ 16) (whole : start ≤ length s) where
  front-arity : (r : ℕ) → r < n → get_or (take start s) r 0 ≡ get_or s r 0
  front-arity r h = get_or-take start s r 0 (omega arith)

  body-past : (v : ℕ) (c : Cursor) (b : ℕ) (e : Cursor) → IsBody (take start s) n v c b e → e.at ≡ past_arguments s c.at b
  body-past v c b e (inl (z, w)) = at_of w.next ∙ sym (past-none s c.at b z)
  body-past v c b e (inr (z, w)) = let k = front-arity b w.below in let a = at_of w.next in omega (arith, past-some s c.at b z)

  body_is : (v : ℕ) (c : Cursor) (b : ℕ) (e : Cursor) → IsBody (take start s) n v c b e → (c.at < length s) × (b ≡ get_or s c.at 0) × ((b ≡ 255 → ⊥) → b < length s)
  body_is v c b e (inl (z, w)) = let (t, q) = front-byte s start c.at w.there in (t, w.is ∙ q, λ k. absurd (k z))
  body_is v c b e (inr (z, w)) = let (t, q) = front-byte s start c.at w.there in (t, w.is ∙ q, λ k. omega (arith, w.below))

  pub laid : (c : Cursor) (l : Clause) (e : Cursor) → IsParts (take start s) n c l e → Room s c.at × (record_of s c.at ≡ l)
  laid c l e w =
      let (t, q) = front-byte s start c.at w.variables.here.there in
      let m : w.first.at ≡ c.at + 1 = at_of w.variables.here.next in
      let (u, b, k) = body_is l.variables w.first l.body w.second w.body in
      let f : w.second.at ≡ past_arguments s w.first.at l.body = body-past l.variables w.first l.body w.second w.body in
      let (x, y) = front-byte s start w.second.at w.head.there in
      let g : l.body ≡ get_or s (c.at + 1) 0 = b ∙ ap (λ (i : ℕ). get_or s i 0) m in
      let seat : w.second.at ≡ past_arguments s (c.at + 1) (get_or s (c.at + 1) 0) = f ∙ rw (m, g) in
      let top : l.head ≡ get_or s (past_arguments s (c.at + 1) (get_or s (c.at + 1) 0)) 0 = w.head.is ∙ y ∙ ap (λ (i : ℕ). get_or s i 0) seat in
      let other : l.head ≡ 255 → ⊥ = λ z. let h = w.head.below in omega arith in
      let past : l.rule ≡ w.second.at + (1 + get_or (take start s) l.head 0) = w.rule ∙ at_of w.head.next in
      let same : get_or (take start s) l.head 0 ≡ get_or s l.head 0 = front-arity l.head w.head.below in
      let rule : l.rule ≡ past_arguments s w.second.at l.head = omega (arith, past-some s w.second.at l.head other) in (
        record { first = omega arith; body = rw g at k; seat = rw seat at x; head = let h = w.head.below in omega arith },
        made l (w.variables.here.is ∙ q) g (w.body_at ∙ m) top (w.head_at ∙ seat) (rw (seat, top) at rule),
      )
    where
      made : (l : Clause) {v b p h q r : ℕ} → l.variables ≡ v → l.body ≡ b → l.body_at ≡ p → l.head ≡ h → l.head_at ≡ q → l.rule ≡ r →
          record { variables = v; body = b; body_at = p; head = h; head_at = q; rule = r } ≡ l
      made l a b c d e f = λ i. record { variables = sym a i; body = sym b i; body_at = sym c i; head = sym d i; head_at = sym e i; rule = sym f i }

-- clause k of an accepted book is what stands where its index entry says
module _ (s : List ℕ) (h : Header) (k : ℕ) {m : Cursor} (good : read s ≡ Ok h) (below : k < h.count) (e : m ≡ entry_at s h.start k) where
  stands : Room s m.at × Held s h k (record_of s m.at)
  stands =
      let w = record-read s h good k below in
      let x = (read-trailed s h good).kept in
      let y = clause-read (take h.start s) h.relations (entry_at s h.start k) w.reads in
      let (room, is) = laid s h.start h.relations x.room x.few (omega arith) (entry_at s h.start k) w.clause y.middle y.parts in
      rw e (room, rw is (held s h good k below w.clause w.past w.reads))

  pub record-room : Room s m.at
  record-room = stands.0

  pub record-held : {l : Clause} → l ≡ record_of s m.at → Held s h k l
  record-held q = rw q stands.1

pub ruleset standing = (record-room, record-held)
