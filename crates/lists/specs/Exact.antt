-- The derivation check accepts exactly the derivations of the goal.
use Rattle.std.specs.Prelude.{◌≡◌, ◌↔◌, ℕ, length, ℤ}
use Rattle.std.proofs.Math.Path.{refl}
use Rattle.std.proofs.Math.Option.{Option, none, some}
use mathlib.Core.List.{List, [], ◌∷◌}
use Rattle.std.proofs.Common.{le_refl}
use Rattle.meaning.specs.Book.{Book, Fact, Step, head, body}
use Rattle.meaning.specs.Derivation.{Chain, last_head, Derives}
use Rattle.reply.specs.Answer.{ok}
use Rattle.reply.specs.Among.{need-ok}
use Rattle.lists.specs.Instance.{step_at}
use Rattle.lists.specs.Compare.{same}
use Rattle.lists.specs.Derivation.{numbers, judge_step, derivation_walk, check, goal, check_derivation}
use Rattle.lists.specs.Among.{among-step}
use Rattle.lists.specs.Laws.{and-says, same-exact, enabled-exact, Asked, asked-exact}
use Rattle.lists.specs.Runs.{Judged, Sense, written, Runs, accepts-only, accepts-every}

pub step-exact : (b : Book) (k : ℕ) (l : List ℤ) (i : ℕ) (o : Option Fact) → (judge_step b k l i o ≡ ok) ↔ Judged b 0 k l (λ p. p ≡ o) (λ s. [])
unfolding judge_step
step-exact b k l i o =
    let one = enabled-exact b k 0 l i (same (body b (step_at b k l)) o) in
    let met = same-exact (body b (step_at b k l)) o in
    (λ e. let (x, n, t) = one.0 e in record { one = x; long = n; met = met.0 t; next = refl }, λ h. one.1 (h.one, h.long, met.1 h.met))

module _ (b : Book) (f : Fact) where
  -- a step's body is the fact just before, the last fact is the goal, and nothing stands in a gap
  abbrev pub derivation_sense : Sense b (derivation_walk b f)
  derivation_sense = record {
    Met = λ p o. p ≡ o;
    Done = λ o. o ≡ some f;
    shown = λ o. [];
    step-says = λ k l i o a. and-says (among-step b k l i o) (step-exact b k l i o);
    end-says = λ i o. (λ e. (same-exact o (some f)).0 ((need-ok _ _ _ _).0 e).0, λ t. (need-ok _ 17 i ok).1 ((same-exact o (some f)).1 t, refl));
  }

  pub numbers-written : (o : Option Fact) (d : List Step) → written b (derivation_walk b f) derivation_sense o d ≡ numbers d
  unfolding numbers
  numbers-written o [] = refl
  numbers-written o (s ∷ d) = rw (numbers-written (some (head b s)) d)

  pub derivation-runs : (o : Option Fact) (d : List Step) → Runs b (derivation_walk b f) derivation_sense o d ↔ (Chain b o d × (last_head b o d ≡ some f))
  derivation-runs o [] = (λ t. (tt, t), λ h. h.1)
  derivation-runs o (s ∷ d) =
      let rest = derivation-runs (some (head b s)) d in
      (λ r. let (c, t) = rest.0 r.3 in ((r.0, r.1, c), t), λ h. (h.0.0, h.0.1, refl, rest.1 (h.0.2, h.1)))

  pub check-exact : (l : List ℤ) → (check b f l ≡ ok) ↔ ((d : List Step) × (numbers d ≡ l) × Derives b d f)
  unfolding check
  check-exact l = (
    λ e. let (d, p, r) = accepts-only b (derivation_walk b f) derivation_sense (length l) 0 none l (le_refl _) e in
        let (c, t) = (derivation-runs none d).0 r in
        (d, rw (numbers-written none d) at p, record { chain = c; last = t }),
    λ h. let d = h.0 in
        rw h.1 at (rw (numbers-written none d) at (accepts-every b (derivation_walk b f) derivation_sense (length (numbers d)) 0 none d (rw (numbers-written none d) (le_refl _)) ((derivation-runs none d).1 (h.2.chain, h.2.last)))),
  )

-- ---- with the goal and the list's length

-- a list that is accepted as a derivation of the goal r vals
pub record Derivation (b : Book) (r : ℕ) (vals l : List ℤ) : Type 0 where
  pub asked : Asked b r vals l
  pub steps : List Step
  pub listed : numbers steps ≡ l
  pub derives : Derives b steps (goal r vals)

pub check_derivation-exact : (b : Book) (r : ℕ) (vals l : List ℤ) → (check_derivation b r vals l ≡ ok) ↔ Derivation b r vals l
unfolding check_derivation
check_derivation-exact b r vals l =
    let whole = asked-exact b r vals l (check b (goal r vals) l) in
    let exact = check-exact b (goal r vals) l in (
      λ e. let (q, a) = whole.0 e in
          let (d, p, h) = exact.0 a in
          record { asked = q; steps = d; listed = p; derives = h },
      λ h. whole.1 (h.asked, exact.1 (h.steps, h.listed, h.derives)),
    )
