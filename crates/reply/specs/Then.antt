-- How steps that may refuse follow one another: the next one goes on with what the one before it gave, or its refusal is handed on.
use Rattle.std.specs.Prelude.{ℕ, ◌≡◌, refl, Result, Ok, Err}
use Rattle.std.proofs.Common.{arith, ap, ◌∙◌}
use Rattle.std.specs.Result.{IsErr, IsErrAnd}
use Rattle.std.proofs.lemmas.Result.{err_from_is_err_and}
use Rattle.reply.specs.declared.Refusal.{Refusal}

-- go on with what was given, or stop at the refusal
unfoldable pub go_on : {A B : Type 0} → Result A Refusal → (A → B) → (Refusal → B) → B
go_on (Ok a) go stop = go a
go_on (Err r) go stop = stop r

-- the same where the refusal is handed on, as the code's `?` does
infixl 10 ◌>>=◌
abbrev pub ◌>>=◌ : {A B : Type 0} → Result A Refusal → (A → Result B Refusal) → Result B Refusal
x >>= go = go_on x go Err

-- a refusal is nothing that was given
pub no_err : {A : Type 0} {a : A} (r : Refusal) → Err r ≡ Ok a → ⊥
no_err r q = let z : ◌≡◌ {A = ℕ} 0 1 = cc in omega arith

-- two readings that gave the same
pub same-read : {A B : Type 0} {a b : A} {c d : B} {E : Type 0} → ◌≡◌ {A = Result (A × B) E} (Ok (a, c)) (Ok (b, d)) → (a ≡ b) × (c ≡ d)
same-read {A = A} {B = B} {a = a} {b = b} {c = c} {d = d} q = let z : ◌≡◌ {A = A × B} (a, c) (b, d) = cc in (ap (λ (p : A × B). p.0) z, ap (λ (p : A × B). p.1) z)

-- what holds on both ways holds
pub go_on-by : {A B : Type 0} (P : B → Type 0) (y : Result A Refusal) (go : A → B) (stop : Refusal → B) → ((a : A) → y ≡ Ok a → P (go a))
    → ((r : Refusal) → y ≡ Err r → P (stop r)) → P (go_on y go stop)
unfolding go_on
go_on-by P (Ok a) go stop p q = p a refl
go_on-by P (Err r) go stop p q = q r refl

-- what came to x came there by what was given, where no refusal does
pub went : {A B : Type 0} {x : B} {Q : Type 0} (y : Result A Refusal) (go : A → B) (stop : Refusal → B) → ((r : Refusal) → stop r ≡ x → ⊥) → go_on y go stop ≡ x
    → ((a : A) → y ≡ Ok a → go a ≡ x → Q) → Q
unfolding go_on
went (Ok a) go stop n q k = k a refl q
went (Err r) go stop n q k = absurd (n r q)

-- ---- the laws by which a promise follows the code

-- where a refusal is handed on by `?`
pub handed : {A E : Type 0} {f : E} (r : Result A E) → IsErr r × IsErrAnd r (λ e. e ≡ f) → r ≡ Err f
handed r h = let (e, p, q) = err_from_is_err_and r h.1 in p ∙ ap Err q

module _ {A B : Type 0} {x : B} (y : Result A Refusal) (go : A → B) (stop : Refusal → B) where
  pub goes-on : {a : A} {r : Result A Refusal} → r ≡ y → r ≡ Ok a → x ≡ go a → x ≡ go_on y go stop
  unfolding go_on
  goes-on p q e = rw (← p, q) e

  pub stops : {f : Refusal} {r : Result A Refusal} → r ≡ y → r ≡ Err f → x ≡ stop f → x ≡ go_on y go stop
  unfolding go_on
  stops p q e = rw (← p, q) e
