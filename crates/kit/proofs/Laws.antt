-- The libraries' answers in document 01's numbers: the number r that is returned and the place q that is written.
use Prim.Native.Nat.{ℕ, ◌-◌, ◌≤◌}
use mathlib.Core.Path.{◌≡◌, ap, ◌∙◌}
use mathlib.Core.List.{List}
use Rattle.reply.specs.declared.Refusal.{Refusal}
use Rattle.reply.specs.Answer.{Answer, says, Answers, Outcome}
use Rattle.reply.specs.Room.{Due, Leaves}
use Rattle.book.specs.declared.Span.{Span}
use Rattle.book.specs.Answer as books
use Rattle.book.specs.OnBook.{refused_by, reading-says}
use Rattle.book.specs.Span.{span_of, spans-by, spans-length}
use Rattle.models.specs.Answer.{Reply}
use Rattle.model.specs.declared.Reply as models
use Rattle.model.specs.Reply as weighings
use Rattle.kit.specs.Promises.{Tells, Writes, Hands, ReadsBook, ChecksModel}
use Rattle.std.specs.Prelude.{Ok, Err}
use Rattle.book.specs.Read.{Reading}

module _ {r q : ℕ} where
  -- ---- by the cases of an answer

  pub tells-done : (x : Outcome) {n : ℕ} → x ≡ Ok n → (r ≡ 0) × (q ≡ n) → Tells (says x) r q
  unfolding says
  tells-done x e t = rw e (record { number = t.0; place = t.1 })

  pub tells-refused : (x : Outcome) {f : Refusal} → x ≡ Err f → (r ≡ f.number) × (q ≡ f.place) → Tells (says x) r q
  unfolding says
  tells-refused x e t = rw e (record { number = t.0; place = t.1 })

  -- ---- by a call's promise

  pub read : (s : List ℕ) {y : Reading} {x : Outcome} → books.Answers s y → x ≡ refused_by y → Tells (says x) r q → ReadsBook s r q
  read s w e t = rw (ap says e ∙ reading-says s w) at t

  pub checked : (a : Answer) {x : Outcome} → Answers a x → Tells (says x) r q → Tells a r q
  checked a w t = rw w.tells at t

  pub filled : {A : Type 0} (y : Due A) {x : Outcome} {e : List A} → Leaves y x e → Tells (says x) r q → Writes y r q e
  filled y w t = record { told = rw w.tells at t; room = w.room }

  pub weighed : (s m : List ℕ) (x : models.Reply) {a : Outcome} → weighings.Replies s m x → a ≡ x.answer → Tells (says a) r q → ChecksModel s m r q x.count x.clause x.values
  weighed s m x w e t = record {
    told = rw (ap says e ∙ ap (λ (y : Reply). y.answer) w.tells) at t;
    count = ap (λ (y : Reply). y.count) w.tells;
    clause = ap (λ (y : Reply). y.clause) w.tells;
    values = ap (λ (y : Reply). y.values) w.tells;
  }

-- ---- where a constraint stands

module _ (s : List ℕ) (k : ℕ) {p : Span} (e : p ≡ span_of s k) where
  pub span-ordered : p.start ≤ p.end
  span-ordered = (spans-by s k e).ordered

  pub span-handed : Hands s k (p.end - p.start) p.start
  span-handed = record { long = spans-length (spans-by s k e); start = ap (λ (x : Span). x.start) e }
