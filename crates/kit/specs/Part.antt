-- What a caller of ruahmitz_constraint has in hand: the part of r bytes from byte q on.
use Rattle.std.specs.Prelude.{ℕ, ◌+◌, ◌≤◌, ◌<◌, ◌≡◌, List, length, take, drop, Ok, Err}
use Rattle.std.proofs.Common.{sym, ap, ◌∙◌}
use Rattle.meaning.specs.Book.{Book}
use Rattle.reply.specs.declared.Refusal.{Refusal}
use Rattle.book.specs.declared.Header.{Header}
use Rattle.book.specs.declared.Span.{Span}
use Rattle.book.specs.Read.{read, constraint_of}
use Rattle.book.specs.Span.{absent, span_of, span-of, spans-length, span-refused, span-absent}
use Rattle.book.specs.Answer.{answer, accepted}
use Rattle.book.specs.Lent.{Lent, handed}
use Rattle.encode.specs.Stands.{Bytes}
use Rattle.encode.specs.Written.{constraint-written}
use Rattle.encode.specs.Part.{constraint-some}
use Rattle.encode.specs.Placed.{written_before, start-written}
use Rattle.kit.specs.Promises.{Hands}

module _ {s : List ℕ} {k r q : ℕ} (u : Hands s k r q) where
  -- it is the constraint of clause k
  pub part-handed : take r (drop q s) ≡ constraint_of s k
  part-handed = let w = span-of s k in rw (u.long ∙ sym (spans-length w), u.start) w.part

  none-handed : span_of s k ≡ absent → (r ≡ 0) × (q ≡ 0)
  none-handed e = (
    u.long ∙ sym (spans-length (span-of s k)) ∙ rw e,
    u.start ∙ ap (λ (p : Span). p.start) e,
  )

  -- 0 and 0 for a refused book
  pub refused-handed : {f : Refusal} → read s ≡ Err f → (r ≡ 0) × (q ≡ 0)
  refused-handed {f} e = none-handed (span-refused s k f e)

  -- and for an absent clause
  pub absent-handed : {h : Header} → read s ≡ Ok h → h.count ≤ k → (r ≡ 0) × (q ≡ 0)
  absent-handed {h} e a = none-handed (span-absent s k h e a)

  -- a constraint that is there has at least one byte
  pub some-handed : {h : Header} → Bytes s → read s ≡ Ok h → k < h.count → 0 < r
  some-handed {h} bytes e a = rw (u.long, constraint-written s h bytes e k a) (constraint-some _)

  -- in an accepted book it begins right after what is written before it,
  pub start-handed : Bytes s → (b : Book) → answer s ≡ accepted b → k < length b.clauses → q ≡ length (written_before b k)
  start-handed bytes b held below = u.start ∙ start-written s bytes b held k below

  -- which is where the part stands that `book::constraint_of` hands out, in the book as it is lent
  pub place-handed : (m : Lent) → m.bytes ≡ s → (handed m k).at ≡ m.at + q
  unfolding handed
  place-handed m e = rw (u.start, e)
