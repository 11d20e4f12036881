-- When the parts that the two checks share accept.
use Rattle.std.specs.Prelude.{◌≡◌, refl, ◌↔◌, Bool, true, false, ◌&&◌, List, [], ◌∷◌, ◌++◌, ℕ, suc, ◌+◌, ◌≤◌, ◌<◌, length, get_or, take, drop, T, eqb, ℤ, pos, negsuc}
use Rattle.std.proofs.Common.{ap, ap₂, arith, length-take-le, take_at, drop_at, leb→le, le→leb, ltb→lt, lt→ltb, eqb→eq}
use Rattle.std.proofs.Math.Option.{Option, none, some}
use Rattle.std.proofs.Math.Dec.{eqb_refl}
use Rattle.std.specs.Int.Signed.{le_z, le_z_yes}
use Rattle.meaning.specs.Book.{Book, Fact, Step, Window, Inside, Within, Instance, clause_of, variable_window}
use Rattle.reply.specs.Answer.{Answer, ok, and_then}
use Rattle.reply.specs.Among.{Among, need-ok, and_split, and-join}
use Rattle.lists.specs.Compare.{eq_z, eq_vals, same, inside, all_in}
use Rattle.lists.specs.Instance.{clause_at, step_at, judge_clause, judge, judge_enabled}
use Rattle.lists.specs.Derivation.{judge_goal, judge_length}
use Rattle.lists.specs.Among.{among-judge, among-goal, among-length}

pub and-says : {J : Type 0} {ns : List ℕ} {x y : Answer} → Among ns x → (x ≡ ok) ↔ J → (and_then x y ≡ ok) ↔ (J × (y ≡ ok))
and-says {x = x} w s = (λ e. let (p, q) = and_split x w e in (s.0 p, q), λ h. and-join (s.1 h.0, h.1))

-- ---- comparisons

pub and_T : (x y : Bool) → T (x && y) ↔ (T x × T y)
and_T true y = (λ t. (tt, t), λ t. t.1)
and_T false y = (λ t. absurd t, λ t. absurd t.0)

eq_z-yes : (x y : ℤ) → T (eq_z x y) → x ≡ y
unfolding eq_z
eq_z-yes (pos m) (pos n) t = ap pos (eqb→eq m n t)
eq_z-yes (pos m) (negsuc n) t = absurd t
eq_z-yes (negsuc m) (pos n) t = absurd t
eq_z-yes (negsuc m) (negsuc n) t = ap negsuc (eqb→eq m n t)

eq_z-refl : (x : ℤ) → T (eq_z x x)
unfolding eq_z
eq_z-refl (pos m) = eqb_refl m
eq_z-refl (negsuc m) = eqb_refl m

eq_vals-yes : (x y : List ℤ) → T (eq_vals x y) → x ≡ y
unfolding eq_vals
eq_vals-yes [] [] t = refl
eq_vals-yes [] (y ∷ ys) t = absurd t
eq_vals-yes (x ∷ xs) [] t = absurd t
eq_vals-yes (x ∷ xs) (y ∷ ys) t =
    let (p, q) = (and_T (eq_z x y) (eq_vals xs ys)).0 t in
    ap₂ {C = List ℤ} (λ u v. u ∷ v) (eq_z-yes x y p) (eq_vals-yes xs ys q)

eq_vals-refl : (x : List ℤ) → T (eq_vals x x)
unfolding eq_vals
eq_vals-refl [] = tt
eq_vals-refl (x ∷ xs) = (and_T (eq_z x x) (eq_vals xs xs)).1 (eq_z-refl x, eq_vals-refl xs)

pub eq_z-exact : (x y : ℤ) → T (eq_z x y) ↔ (x ≡ y)
eq_z-exact x y = (eq_z-yes x y, λ e. rw e (eq_z-refl y))

pub eq_vals-exact : (x y : List ℤ) → T (eq_vals x y) ↔ (x ≡ y)
eq_vals-exact x y = (eq_vals-yes x y, λ e. rw e (eq_vals-refl y))

same-yes : (x y : Option Fact) → T (same x y) → x ≡ y
unfolding same
same-yes none none t = refl
same-yes none (some g) t = absurd t
same-yes (some f) none t = absurd t
same-yes (some f) (some g) t =
    let (p, q) = (and_T (eqb f.rel g.rel) (eq_vals f.vals g.vals)).0 t in
    λ i. some (record { rel = eqb→eq f.rel g.rel p i; vals = eq_vals-yes f.vals g.vals q i })

same_refl : (x : Option Fact) → T (same x x)
unfolding same
same_refl none = tt
same_refl (some f) = (and_T (eqb f.rel f.rel) (eq_vals f.vals f.vals)).1 (eqb_refl f.rel, eq_vals-refl f.vals)

pub same-exact : (x y : Option Fact) → T (same x y) ↔ (x ≡ y)
same-exact x y = (same-yes x y, λ e. rw e (same_refl y))

pub inside-exact : (w : Window) (v : ℤ) → T (inside w v) ↔ Inside w v
unfolding inside
inside-exact w v =
    let both = and_T (le_z w.lo v) (le_z v w.hi) in
    (λ t. record { low = le_z_yes (both.0 t).0; high = le_z_yes (both.0 t).1 }, λ h. both.1 (h.low.le, h.high.le))

pub all_in-exact : (w : ℕ → Window) (vs : List ℤ) → T (all_in w vs) ↔ Within w vs
unfolding all_in
all_in-exact w [] = (λ t. tt, λ t. tt)
all_in-exact w (v ∷ vs) =
    let both = and_T (inside (w 0) v) (all_in (λ i. w (suc i)) vs) in
    let one = inside-exact (w 0) v in
    let rest = all_in-exact (λ i. w (suc i)) vs in
    (λ t. (one.0 (both.0 t).0, rest.0 (both.0 t).1), λ h. both.1 (one.1 h.0, rest.1 h.1))

-- ---- an instance at the front of a list

-- it is one, and `more` numbers follow its values
pub judge-exact : (b : Book) (k more : ℕ) (l : List ℤ) (i : ℕ)
    → (judge b k more l i ≡ ok) ↔ (Instance b (step_at b k l) × ((clause_at b k).vars + more ≤ length l))
unfolding judge judge_clause
judge-exact b k more l i =
    let c = clause_at b k in
    let inWindows = all_in-exact (variable_window b c) (take c.vars l) in (
      λ e. let (t₁, e₁) = (need-ok _ _ _ _).0 e in
          let (t₂, e₂) = (need-ok _ _ _ _).0 e₁ in
          let (t₃, e₃) = (need-ok _ _ _ _).0 e₂ in
          let (t₄, e₄) = (need-ok _ _ _ _).0 e₃ in
          let long : c.vars + more ≤ length l = leb→le (c.vars + more) (length l) t₂ in
          (record { there = ltb→lt k (length b.clauses) t₁; count = length-take-le c.vars l (omega arith); within = inWindows.0 t₃; true_of = t₄ }, long),
      λ h. (need-ok _ 12 i _).1 (
        lt→ltb k (length b.clauses) h.0.there,
        (need-ok _ 13 i _).1 (
          le→leb (c.vars + more) (length l) h.1,
          (need-ok _ 14 _ _).1 (
            inWindows.1 h.0.within,
            (need-ok _ 15 i _).1 (h.0.true_of, refl),
          ),
        ),
      ),
    )

-- and its body is met
pub enabled-exact : (b : Book) (k more : ℕ) (l : List ℤ) (i : ℕ) (met : Bool)
    → (judge_enabled b k more l i met ≡ ok) ↔ (Instance b (step_at b k l) × ((clause_at b k).vars + more ≤ length l) × T met)
unfolding judge_enabled
enabled-exact b k more l i met =
    let one = judge-exact b k more l i in (
      λ e. let (j, t) = and_split _ (among-judge b k more l i) e in ((one.0 j).0, (one.0 j).1, ((need-ok _ _ _ _).0 t).0),
      λ h. and-join (one.1 (h.0, h.1), (need-ok _ 16 i ok).1 (h.2, refl)),
    )

-- an instance's values at the front of a list
pub step-at : (b : Book) (s : Step) (rest : List ℤ) → Instance b s → step_at b s.clause (s.vals ++ rest) ≡ s
step-at b s rest i = λ j. record { clause = s.clause; vals = take_at s.vals rest (clause_of b s).vars i.count j }

pub after-step : (b : Book) (s : Step) (rest : List ℤ) → Instance b s → drop (clause_at b s.clause).vars (s.vals ++ rest) ≡ rest
after-step b s rest i = drop_at s.vals rest (clause_of b s).vars i.count

-- ---- the goal and the list's length

-- the goal is a relation's number with as many values as it has places, and the list has 1 to 1000000 numbers
pub record Asked (b : Book) (r : ℕ) (vals l : List ℤ) : Type 0 where
  pub there : r < length b.arities
  pub full : length vals ≡ get_or b.arities r 0
  pub some : 0 < length l
  pub few : length l ≤ 1000000

pub asked-exact : (b : Book) (r : ℕ) (vals l : List ℤ) (a : Answer)
    → (and_then (judge_goal b r vals) (and_then (judge_length l) a) ≡ ok) ↔ (Asked b r vals l × (a ≡ ok))
unfolding judge_goal judge_length
asked-exact b r vals l a = (
  λ e. let (g, e₁) = and_split _ (among-goal b r vals) e in
      let (n, e₂) = and_split _ (among-length l) e₁ in
      let (t₁, g₁) = (need-ok _ _ _ _).0 g in
      let (t₂, g₂) = (need-ok _ _ _ _).0 g₁ in
      let (t₃, n₁) = (need-ok _ _ _ _).0 n in
      let (t₄, n₂) = (need-ok _ _ _ _).0 n₁ in
      (record { there = ltb→lt r (length b.arities) t₁; full = eqb→eq (length vals) (get_or b.arities r 0) t₂; some = ltb→lt 0 (length l) t₃; few = leb→le (length l) 1000000 t₄ }, e₂),
  λ h. let q = h.0 in
      and-join (
        (need-ok _ 10 0 _).1 (lt→ltb r (length b.arities) q.there, (need-ok _ 10 0 _).1 (rw q.full (eqb_refl (get_or b.arities r 0)), refl)),
        and-join (
          (need-ok _ 11 0 _).1 (lt→ltb 0 (length l) q.some, (need-ok _ 11 0 _).1 (le→leb (length l) 1000000 q.few, refl)),
          h.1,
        ),
      ),
)
