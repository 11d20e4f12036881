-- What a call answers, in document 01's numbers: done is 0 at the length written (at 0 where nothing is), a refusal has its number and place.
use Rattle.std.specs.Prelude.{ℕ, ◌≡◌, refl, ◌↔◌, Bool, true, false, Result, Ok, Err}
use Rattle.std.proofs.Common.{sym, ap, ◌∙◌}
use Rattle.reply.specs.declared.Refusal.{Refusal}

pub data Answer : Type 0 where
  done : ℕ → Answer
  refused : ℕ → ℕ → Answer

-- accepted, and nothing is written
abbrev pub ok : Answer
ok = done 0

abbrev pub number : Answer → ℕ
number (done n) = 0
number (refused n p) = n

abbrev pub place : Answer → ℕ
place (done n) = n
place (refused n p) = p

-- go on, or refuse with number n at place p
unfoldable pub need : Bool → ℕ → ℕ → Answer → Answer
need true n p a = a
need false n p a = refused n p

-- the first refusal of two answers
unfoldable pub and_then : Answer → Answer → Answer
and_then (done n) a = a
and_then (refused n p) a = refused n p

-- ---- the code's own answer

abbrev pub refuse : ℕ → ℕ → Refusal
refuse n p = record { number = n; place = p }

-- done, with the length that was written, or the refusal
abbrev pub Outcome : Type 0
Outcome = Result ℕ Refusal

-- the number and the place of each case
unfoldable pub says : Outcome → Answer
says (Ok n) = done n
says (Err r) = refused r.number r.place

-- the case that says so
unfoldable pub told : Answer → Outcome
told (done n) = Ok n
told (refused n p) = Err (refuse n p)

-- the same, and what is given where it is done
unfoldable pub giving : {B : Type 0} → Answer → B → Result B Refusal
giving (done n) y = Ok y
giving (refused n p) y = Err (refuse n p)

pub says-told : (a : Answer) → says (told a) ≡ a
unfolding says told
says-told (done n) = refl
says-told (refused n p) = refl

pub told-says : (x : Outcome) → told (says x) ≡ x
unfolding says told
told-says (Ok n) = refl
told-says (Err r) = refl

-- what says the same is the same
pub says-one : {x y : Outcome} → says x ≡ says y → x ≡ y
says-one {x} {y} e = sym (told-says x) ∙ ap told e ∙ told-says y

-- each case by what it says
pub says-done : (x : Outcome) (n : ℕ) → (says x ≡ done n) ↔ (x ≡ Ok n)
unfolding says told
says-done x n = (λ e. sym (told-says x) ∙ ap told e, λ e. ap says e)

pub says-refused : (x : Outcome) (n p : ℕ) → (says x ≡ refused n p) ↔ (x ≡ Err (refuse n p))
unfolding says told
says-refused x n p = (λ e. sym (told-says x) ∙ ap told e, λ e. ap says e)

-- ---- the promise of a call that writes nothing, where document 01 says a

pub record Answers (a : Answer) (x : Outcome) : Type 0 where
  pub tells : says x ≡ a

pub answers : {a : Answer} {x : Outcome} → x ≡ told a → Answers a x
answers {a} e = record { tells = ap says e ∙ says-told a }

-- one answer keeps it
pub answers_one : {a : Answer} {x y : Outcome} → Answers a x → Answers a y → x ≡ y
answers_one p q = says-one (p.tells ∙ sym q.tells)
