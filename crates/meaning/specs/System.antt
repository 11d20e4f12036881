-- Systems whose states hold facts, and their traces, in reading order.
use Rattle.std.specs.Prelude.{◌≡◌, List, [], ◌∷◌, map, reverse, Bool, true, false, ℕ, eqb}
use Rattle.std.proofs.Math.Option.{Option, none, some}
use Rattle.meaning.specs.Book.{Book, Fact, Step, Instance, head, body}

-- what a system must tell: which states are first, where a clause without body may step, when a state holds a fact, and the state with a fact put in
pub record System : Type 1 where
  pub State : Type 0
  pub Init : State → Type 0
  pub Fresh : State → Type 0
  pub Holds : Fact → State → Type 0
  pub put : Fact → State → State

-- a step with this body may be taken here
abbrev pub Enabled : (S : System) → Option Fact → S.State → Type 0
Enabled S none σ = S.Fresh σ
Enabled S (some f) σ = S.Holds f σ

module _ (b : Book) (S : System) where
  -- a step and the state after it
  pub record Move : Type 0 where
    pub step : Step
    pub next : S.State

  -- each move is an enabled instance, and its next state is the one with the head put in
  abbrev pub Follows : S.State → List Move → Type 0
  Follows σ [] = Unit {0}
  Follows σ (m ∷ ms) = Instance b m.step × Enabled S (body b m.step) σ × (m.next ≡ S.put (head b m.step) σ) × Follows m.next ms

  abbrev pub final : S.State → List Move → S.State
  final σ [] = σ
  final σ (m ∷ ms) = final m.next ms

  -- a trace from σ whose last state holds f
  pub record Reaches (σ : S.State) (ms : List Move) (f : Fact) : Type 0 where
    pub init : S.Init σ
    pub follows : Follows σ ms
    pub holds : S.Holds f (final σ ms)

  -- some trace reaches f
  abbrev pub Reachable : Fact → Type 0
  Reachable f = (σ : S.State) × (ms : List Move) × Reaches σ ms f

  -- the moves that some steps make from σ
  abbrev pub moves : S.State → List Step → List Move
  moves σ [] = []
  moves σ (s ∷ τ) = record { step = s; next = S.put (head b s) σ } ∷ moves (S.put (head b s) σ) τ

  abbrev pub steps : List Move → List Step
  steps ms = map (λ (m : Move). m.step) ms

-- ---- trace to derivation: the last step that wrote the relation, then the last earlier one that wrote its body's, and so on

abbrev pub before : Option Fact → (ℕ → List Step) → List Step
before none k = []
before (some g) k = k g.rel

abbrev pub turn : Bool → Step → Option Fact → ℕ → (ℕ → List Step) → List Step
turn true s o r k = s ∷ before o k
turn false s o r k = k r

-- newest step first: where this step wrote relation r it is kept and its body's relation is looked for, else r is looked for further back
unfoldable pub back : Book → ℕ → List Step → List Step
back b r [] = []
back b r (s ∷ τ) = turn (eqb (head b s).rel r) s (body b s) r (λ q. back b q τ)

-- in reading order
unfoldable pub last_writers : Book → ℕ → List Step → List Step
last_writers b r τ = reverse (back b r (reverse τ))
