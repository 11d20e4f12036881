-- What a call writes into a lent room, and what it leaves there where the room is too short.
use Rattle.std.specs.Prelude.{ℕ, ◌≤◌, ◌<◌, ◌≡◌, Bool, List, take, drop}
use Rattle.std.proofs.Common.{ap, ◌∙◌}
use Rattle.std.proofs.Math.Path.{refl, sym}
use Rattle.std.proofs.Math.Bool.{true, false}
use Rattle.std.proofs.Math.ListN.{length}
use Rattle.std.proofs.Math.Seq.{take-append_seam}
use Rattle.std.proofs.Math.Dec.{leb}
use borrow.Author.Tests.{leb-true, leb-false, lt-leb}
use Rattle.reply.specs.Answer.{Answer, done, refused}
use Rattle.reply.specs.Among.{refused-not}
use Rattle.reply.specs.Room.{Due, kept, written, written-wrote, Fair, kept-fair, wrote-fair}

module _ {A : Type 0} (t d : List A) where
  pub written-needs : (n : ℕ) → length d < length t → written (done n) t d ≡ kept d 9 (length t)
  unfolding written
  written-needs n h = rw (lt-leb (length t) (length d) h, written)

  -- it is done just where no refusal came before and the room holds it
  pub written-done : (a : Answer) {n : ℕ} → (written a t d).answer ≡ done n → ((m : ℕ) × (a ≡ done m)) × (length t ≤ length d) × (length t ≡ n)
  unfolding written
  written-done (refused m p) e = absurd (refused-not e)
  written-done (done m) {n} e = go (leb (length t) (length d)) refl e
    where
      go : (u : Bool) → leb (length t) (length d) ≡ u → (written (done m) t d).answer ≡ done n → ((k : ℕ) × (done m ≡ done k)) × (length t ≤ length d) × (length t ≡ n)
      go true q e = let h = leb-true (length t) (length d) q in let z : done (length t) ≡ done n = sym (ap (λ (y : Due A). y.answer) (written-wrote t d m h)) ∙ e in ((m, refl), h, cc)
      go false q e = absurd (refused-not (sym (ap (λ (y : Due A). y.answer) (written-needs m (leb-false (length t) (length d) q))) ∙ e))

  -- then its front is t
  pub written-front : (a : Answer) {n : ℕ} → (written a t d).answer ≡ done n → take n (written a t d).room ≡ t
  written-front a e =
      let ((m, i), h, z) = written-done a e in
      rw (i, written-wrote t d m h, ← z) (take-append_seam t (drop (length t) d))

pub written-fair : {A : Type 0} (a : Answer) (t d : List A) → Fair d (written a t d)
unfolding written
written-fair (refused n p) t d = kept-fair d n p
written-fair (done n) t d = go (leb (length t) (length d)) refl
  where
    go : (u : Bool) → leb (length t) (length d) ≡ u → Fair d (written (done n) t d)
    go true q = let h = leb-true (length t) (length d) q in rw (written-wrote t d n h) (wrote-fair t d h)
    go false q = rw (written-needs t d n (leb-false (length t) (length d) q)) (kept-fair d 9 (length t))
