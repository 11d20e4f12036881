-- Which refusals an answer can be: those whose numbers stand in a list.
use Rattle.std.specs.Prelude.{ℕ, ◌≡◌, refl, ◌↔◌, Bool, true, false, List, [], ◌∷◌, ◌++◌, T, eqb, Ok, Err}
use Rattle.std.proofs.Common.{arith, sym, ap, ◌∙◌, eqb→eq}
use Rattle.reply.specs.declared.Refusal.{Refusal}
use Rattle.reply.specs.Answer.{Answer, done, refused, ok, number, need, and_then, refuse, told, giving}

-- n is one of the numbers ns
unfoldable pub has : List ℕ → ℕ → Bool
has [] n = false
has (m ∷ ns) n = elim (eqb n m) [ true ↦ true | false ↦ has ns n ]

-- every one of ms is one of ns
unfoldable pub all : List ℕ → List ℕ → Bool
all ns [] = true
all ns (m ∷ ms) = elim (has ns m) [ true ↦ all ns ms | false ↦ false ]

has_all : (ns ms : List ℕ) (n : ℕ) → T (all ns ms) → T (has ms n) → T (has ns n)
unfolding has all
has_all ns [] n a h = absurd h
has_all ns (m ∷ ms) n a h = go (eqb n m) refl (has ns m) refl a h (has_all ns ms n)
  where
    go : (t : Bool) → eqb n m ≡ t → (u : Bool) → has ns m ≡ u → T (elim u [ true ↦ all ns ms | false ↦ false ]) → T (elim t [ true ↦ true | false ↦ has ms n ])
        → (T (all ns ms) → T (has ms n) → T (has ns n)) → T (has ns n)
    go t p false q x y more = absurd x
    go false p true q x y more = more x y
    go true p true q x y more = let e : n ≡ m = eqb→eq n m (rw p tt) in rw (e, q) tt

-- among the numbers before, or behind
pub has-before : (ms ns : List ℕ) (n : ℕ) → T (has ms n) → T (has (ms ++ ns) n)
unfolding has
has-before [] ns n h = absurd h
has-before (m ∷ ms) ns n h = go (eqb n m) h (has-before ms ns n)
  where
    go : (t : Bool) → T (elim t [ true ↦ true | false ↦ has ms n ]) → (T (has ms n) → T (has (ms ++ ns) n)) → T (elim t [ true ↦ true | false ↦ has (ms ++ ns) n ])
    go true h more = tt
    go false h more = more h

pub has-behind : (ms ns : List ℕ) (n : ℕ) → T (has ns n) → T (has (ms ++ ns) n)
unfolding has
has-behind [] ns n h = h
has-behind (m ∷ ms) ns n h = go (eqb n m) (has-behind ms ns n h)
  where
    go : (t : Bool) → T (has (ms ++ ns) n) → T (elim t [ true ↦ true | false ↦ has (ms ++ ns) n ])
    go true h = tt
    go false h = h

-- accepted with nothing written, or refused with one of the numbers ns
pub record Among (ns : List ℕ) (a : Answer) : Type 0 where
  pub plain : {n : ℕ} → a ≡ done n → n ≡ 0
  pub among : {n p : ℕ} → a ≡ refused n p → T (has ns n)

pub refused-not : {n p m : ℕ} → ¬ (refused n p ≡ done m)
refused-not e = let z : ◌≡◌ {A = ℕ} 0 1 = cc in omega arith

pub among-ok : {ns : List ℕ} → Among ns ok
among-ok = record { plain = λ e. cc; among = λ e. absurd (refused-not (sym e)) }

pub among-refused : {ns : List ℕ} (n p : ℕ) → T (has ns n) → Among ns (refused n p)
among-refused n p h = record { plain = λ e. absurd (refused-not e); among = λ {n = m} e. let z : n ≡ m = cc in rw z at h }

pub among-need : {ns : List ℕ} (t : Bool) (n p : ℕ) {a : Answer} → T (has ns n) → Among ns a → Among ns (need t n p a)
unfolding need
among-need true n p h w = w
among-need false n p h w = among-refused n p h

pub among-and : {ns : List ℕ} (x : Answer) {y : Answer} → Among ns x → Among ns y → Among ns (and_then x y)
unfolding and_then
among-and (done n) v w = w
among-and (refused n p) v w = v

pub ruleset amongs = (among-ok, among-need, among-and)

-- among more numbers
pub among-all : {ms : List ℕ} (ns : List ℕ) {a : Answer} → T (all ns ms) → Among ms a → Among ns a
among-all {ms} ns h w = record { plain = λ e. w.plain e; among = λ {n} e. has_all ns ms n h (w.among e) }

-- ---- when an answer is ok

pub need-ok : (t : Bool) (n p : ℕ) (a : Answer) {m : ℕ} → (need t n p a ≡ done m) ↔ (T t × (a ≡ done m))
unfolding need
need-ok true n p a = (λ e. (tt, e), λ h. h.1)
need-ok false n p a = (λ e. absurd (refused-not e), λ h. absurd h.0)

pub and_split : {ns : List ℕ} (x : Answer) {y : Answer} → Among ns x → and_then x y ≡ ok → (x ≡ ok) × (y ≡ ok)
unfolding and_then
and_split (done n) w e = (ap done (w.plain refl), e)
and_split (refused n p) w e = absurd (refused-not e)

pub and-join : {x y : Answer} → (x ≡ ok) × (y ≡ ok) → and_then x y ≡ ok
unfolding and_then
and-join h = rw h.0 h.1

-- the number 0 is no refusal's
pub zero_ok : {ns : List ℕ} (a : Answer) → Among ns a → ¬ T (has ns 0) → number a ≡ 0 → a ≡ ok
zero_ok (done n) w h e = ap done (w.plain refl)
zero_ok (refused n p) w h e = absurd (h (rw e at (w.among refl)))

-- the code's answer
pub told-done : (a : Answer) {n : ℕ} → told a ≡ Ok n → a ≡ done n
unfolding told
told-done (done m) {n} e = let z : m ≡ n = cc in ap done z
told-done (refused m p) e = absurd (let z : ◌≡◌ {A = ℕ} 0 1 = cc in let w : ⊥ = omega arith in w)

pub told-ok : {ns : List ℕ} (a : Answer) {n : ℕ} → Among ns a → told a ≡ Ok n → a ≡ ok
told-ok a {n} w e = let k = told-done a e in let z : n ≡ 0 = w.plain k in k ∙ ap done z

pub told-no : (a : Answer) (g : Refusal) → told a ≡ Err g → a ≡ refused g.number g.place
unfolding told
told-no (done n) g e = absurd (let z : ◌≡◌ {A = ℕ} 0 1 = cc in let w : ⊥ = omega arith in w)
told-no (refused n p) g e = let z : refuse n p ≡ g = cc in rw (← z)

-- what is given with it
pub giving-no : {B : Type 0} (a : Answer) (y : B) (g : Refusal) → giving a y ≡ Err g → a ≡ refused g.number g.place
unfolding giving
giving-no (done n) y g e = absurd (let z : ◌≡◌ {A = ℕ} 0 1 = cc in let w : ⊥ = omega arith in w)
giving-no (refused n p) y g e = let z : refuse n p ≡ g = cc in rw (← z)

pub giving-ok : {B : Type 0} {ns : List ℕ} (a : Answer) (y : B) {z : B} → Among ns a → giving a y ≡ Ok z → (a ≡ ok) × (y ≡ z)
unfolding giving
giving-ok (done n) y w e = (ap done (w.plain refl), cc)
giving-ok (refused n p) y w e = absurd (let z : ◌≡◌ {A = ℕ} 0 1 = cc in let w : ⊥ = omega arith in w)
