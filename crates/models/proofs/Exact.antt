-- The model check is exact: it accepts just the bytes that hold a model with few enough assignments, and a broken instance that it names is the first there is.
use Rattle.std.specs.Prelude.{◌≡◌, ◌↔◌, ◌⊎◌, Bool, ◌&&◌, ℕ, suc, ◌<◌, ◌≤◌, get_or, Ok, Err}
use Rattle.std.proofs.Math.Path.{refl, ap}
use Rattle.std.proofs.Common.{sym, ◌∙◌, inl, inr, ltb-true, ltb-false}
use Rattle.std.proofs.Math.Bool.{true, false, not}
use Rattle.std.proofs.Math.Option.{Option, none, some}
use mathlib.Core.List.{List, [], ◌∷◌}
use native.Mathlib.Omega.{arith}
use Rattle.std.proofs.Math.ListN.{length, length-map, get_or-map, get_or-append}
use Rattle.std.proofs.Math.Seq.{get_or-append_seam}
use Rattle.std.proofs.Math.Dec.{T}
use Rattle.std.specs.Float.Ieee.Bits.{is_true}
use Rattle.reply.specs.Answer.{refused, ok}
use Rattle.reply.specs.Among.{has, Among, among-ok, among-refused}
use Rattle.meaning.specs.Constraint.{Constraint, truth, holds}
use Rattle.meaning.specs.Book.{Book, Fact, Step, Instance, clause_of, head, body, query}
use Rattle.meaning.specs.Limits.{Each, Limits}
use Rattle.meaning.specs.Derivation.{Derivable}
use Rattle.meaning.specs.System.{System, Reachable}
use Rattle.meaning.specs.State.{Flagged}
use Rattle.meaning.specs.Model.{All, Satisfies, Model}
use Rattle.meaning.specs.Laws.{Laws}
use Rattle.meaning.specs.Main.{model-derivation, model-trace, flags-model-trace}
use Rattle.meaning.specs.Wf.{each_at}
use Rattle.cursor.specs.declared.Cursor.{Cursor}
use Rattle.cursor.specs.Inverse.{pick-by}
use Rattle.models.specs.Read.{Part, rules, parts_at, model_in}
use Rattle.models.specs.Walk.{Assignment, walk, total, position, satisfies, met, breaks, Finding, clean, broken, find}
use Rattle.models.specs.Answer.{Reply, number_of, plain, outcome, no_part, weighed, judged, examine}
use Rattle.models.specs.Exact.{rule-went, refused-read, Broken, Accepts, FirstBroken, broken_at, Breaks, model_numbers}
use Rattle.models.proofs.Found.{Among as Within, tried, position-walk, walk-total, Whole, First, find-clean, find-broken, walk-clean}
use Rattle.cursor.specs.Steps.{Read}
use Rattle.reply.specs.Then.{no_err, went, same-read}

never : false ≡ true → ⊥
never e = let z : ◌≡◌ {A = ℕ} 0 1 = cc in omega arith

-- ---- reading

parts-length : (s ns : List ℕ) (c : Cursor) (ps : List Part) (e : Cursor) → parts_at s ns c ≡ Ok (ps, e) → length ps ≡ length ns
unfolding parts_at
parts-length s [] c ps e q =
    pick-by (λ a. a ≡ Ok (ps, e) → length ps ≡ 0) _ _ _ (λ t r. let z = sym (same-read r).0 in rw z) (λ t r. absurd (no_err _ r)) q
parts-length s (n ∷ ns) c ps e q =
    rule-went _ _ q λ t d x y. went _ _ _ no_err y λ (us, f) z w.
    let l = (same-read w).0 in
    rw (← l) (ap suc (parts-length s ns d us f z))

-- ---- what breaks a model

module _ (b : Book) (m : List Constraint) where
  -- every instance whose body satisfies m has a head that does
  abbrev pub Closed : Type 0
  Closed = (s : Step) → Instance b s → All (Satisfies m) (body b s) → Satisfies m (head b s)

  satisfied : (f : Fact) → (satisfies m f ≡ true) ↔ Satisfies m f
  unfolding satisfies
  satisfied f = (λ e. record { true_of = rw e tt }, λ h. is_true (satisfies m f) h.true_of)

  all-met : (o : Option Fact) → (met m o ≡ true) ↔ All (Satisfies m) o
  unfolding met
  all-met none = (λ e. tt, λ h. refl)
  all-met (some f) = satisfied f

  pub instance-assignment : (s : Step) → Instance b s → Assignment b s
  instance-assignment s i = record { there = i.there; count = i.count; within = i.within }

  pub breaks-broken : (s : Step) → Assignment b s → (breaks b m s ≡ true) ↔ Broken b m s
  unfolding breaks
  breaks-broken s a = (
    λ e. go (holds s.vals (clause_of b s).rule) refl (met m (body b s)) refl (satisfies m (head b s)) refl e,
    λ h. rw (is_true (holds s.vals (clause_of b s).rule) h.one.true_of, (all-met (body b s)).1 h.body) (fails (satisfies m (head b s)) refl h.head),
  )
    where
      fails : (t : Bool) → satisfies m (head b s) ≡ t → ¬ Satisfies m (head b s) → not t ≡ true
      fails true e n = absurd (n ((satisfied (head b s)).0 e))
      fails false e n = refl

      go : (p : Bool) → holds s.vals (clause_of b s).rule ≡ p → (q : Bool) → met m (body b s) ≡ q → (r : Bool) → satisfies m (head b s) ≡ r →
          p && (q && not r) ≡ true → Broken b m s
      go true p true q false r e = record {
        one = record { there = a.there; count = a.count; within = a.within; true_of = rw p tt };
        body = (all-met (body b s)).0 q;
        head = λ h. never (sym r ∙ (satisfied (head b s)).1 h);
      }
      go true p true q true r e = absurd (never e)
      go true p false q c r e = absurd (never e)
      go false p q' q c r e = absurd (never e)

  -- the model is closed exactly when no assignment breaks it
  closed-whole : Closed ↔ ((s : Step) → Assignment b s → Whole b m s)
  closed-whole = (λ c s a. whole c s a (breaks b m s) refl, λ h s i a. keeps h s i a (satisfies m (head b s)) refl)
    where
      whole : Closed → (s : Step) → Assignment b s → (t : Bool) → breaks b m s ≡ t → breaks b m s ≡ false
      whole c s a true e = let k = (breaks-broken s a).0 e in absurd (k.head (c s k.one k.body))
      whole c s a false e = e

      keeps : ((s : Step) → Assignment b s → Whole b m s) → (s : Step) → Instance b s → All (Satisfies m) (body b s) → (t : Bool) → satisfies m (head b s) ≡ t →
          Satisfies m (head b s)
      keeps h s i a true e = (satisfied (head b s)).0 e
      keeps h s i a false e =
          let x = instance-assignment s i in
          let k : Broken b m s = record { one = i; body = a; head = λ p. never (sym e ∙ (satisfied (head b s)).1 p) } in
          absurd (never (sym (h s x) ∙ (breaks-broken s x).1 k))

  -- a model is its three parts
  model-parts : (length m ≡ length b.arities) → Model b m ↔ ((holds [] (get_or m b.query truth) ≡ false) × (find b m 0 (walk b) ≡ clean (total b)))
  unfolding satisfies
  model-parts l = (
    λ h. (denied (holds [] (get_or m b.query truth)) refl h.excludes.denies, (walk-clean b m).1 (closed-whole.0 h.excludes.closed)),
    λ h. record {
      one_each = l;
      excludes = record {
        closed = closed-whole.1 ((walk-clean b m).0 h.1);
        denies = λ q. never (sym h.0 ∙ (satisfied (query b)).1 q);
      };
    },
  )
    where
      denied : (t : Bool) → holds [] (get_or m b.query truth) ≡ t → ¬ Satisfies m (query b) → holds [] (get_or m b.query truth) ≡ false
      denied true e n = absurd (n (record { true_of = rw e tt }))
      denied false e n = e

-- ---- the answer

module _ (b : Book) (ps : List Part) where
  query-rule : get_or (rules ps) b.query truth ≡ (get_or ps b.query no_part).rule
  query-rule = get_or-map (λ (p : Part). p.rule) ps b.query no_part

  -- what holds on each way to an answer holds of it
  pub weighed-by : (P : Reply → Type 0) →
      (holds [] (get_or (rules ps) b.query truth) ≡ true → P (plain (refused 23 (get_or ps b.query no_part).at) 0)) →
      (holds [] (get_or (rules ps) b.query truth) ≡ false → 1000000 < total b → P (plain (refused 24 0) 0)) →
      (holds [] (get_or (rules ps) b.query truth) ≡ false → total b ≤ 1000000 → P (outcome (find b (rules ps) 0 (walk b)))) →
      P (weighed b ps)
  unfolding weighed
  weighed-by P x y z =
      pick-by P _ _ _ (λ t. x (rw query-rule t)) λ t.
      pick-by P _ _ _ (λ u. y (rw query-rule t) (ltb-true _ _ u)) (λ u. z (rw query-rule t) (ltb-false _ _ u))

-- the parts ps pass each of the three tests
record Passes (b : Book) (ps : List Part) : Type 0 where
  denied : holds [] (get_or (rules ps) b.query truth) ≡ false
  few : total b ≤ 1000000
  clear : find b (rules ps) 0 (walk b) ≡ clean (total b)

module _ (b : Book) where
  clear-only : (m : List Constraint) (f : Finding) → find b m 0 (walk b) ≡ f → number_of (outcome f) ≡ 0 → find b m 0 (walk b) ≡ clean (total b)
  unfolding outcome
  clear-only m (clean n) e h =
      let z : n ≡ total b = omega (arith, (find-clean b m 0 (walk b) n e).0, walk-total b) in
      e ∙ ap clean z
  clear-only m (broken n s) e h = absurd (let z : ⊥ = omega arith in z)

  passes : (ps : List Part) → number_of (weighed b ps) ≡ 0 → Passes b ps
  passes ps = weighed-by b ps (λ a. number_of a ≡ 0 → Passes b ps)
      (λ t h. absurd (let z : ⊥ = omega arith in z))
      (λ t u h. absurd (let z : ⊥ = omega arith in z))
      (λ t u h. record { denied = t; few = u; clear = clear-only (rules ps) (find b (rules ps) 0 (walk b)) refl h })

  passed : (ps : List Part) → Passes b ps → weighed b ps ≡ plain ok (total b)
  unfolding outcome
  passed ps p = weighed-by b ps (λ a. a ≡ plain ok (total b))
      (λ t. absurd (never (sym p.denied ∙ t)))
      (λ t u. absurd (let z : ⊥ = omega (arith, p.few) in z))
      (λ t u. rw p.clear)

  module _ (s : List ℕ) where
    read-passes : (y : Read (List Part)) → model_in s b.arities ≡ y → number_of (judged b y) ≡ 0 → (ps : List Part) × (c : Cursor) × (y ≡ Ok (ps, c)) × Passes b ps
    unfolding judged model_in
    read-passes (Ok (ps, c)) e h = (ps, c, refl, passes ps h)
    read-passes (Err r) e h = absurd (fine (refused-read s b.arities e))
      where
        fine : (r.number ≡ 21) ⊎ (r.number ≡ 22) → ⊥
        fine (inl z) = omega arith
        fine (inr z) = omega arith

    accepts : number_of (examine b s) ≡ 0 → Accepts b s
    unfolding examine model_in
    accepts h =
        let (ps, c, e, p) = read-passes (model_in s b.arities) refl h in
        let l : length (rules ps) ≡ length b.arities = length-map ps (λ (p : Part). p.rule) ∙ parts-length s b.arities (record { at = 0; left = 0 }) ps c e in
        record {
          model = rules ps;
          held = record { parts = ps; end = c; reads = e; are = refl };
          is = (model-parts b (rules ps) l).1 (p.denied, p.clear);
          few = p.few;
        }

    -- what is accepted has the reply 0 at 0, with all assignments counted
    accepts-reply : Accepts b s → examine b s ≡ plain ok (total b)
    unfolding examine judged
    accepts-reply a =
        let h = a.held in
        let m : Model b (rules h.parts) = rw h.are a.is in
        let q = (model-parts b (rules h.parts) m.one_each).0 m in
        rw h.reads (passed h.parts (record { denied = q.0; few = a.few; clear = q.1 }))

    -- accepted exactly when the bytes hold a model of b and there are at most a million assignments
    pub accepted-exactly : (number_of (examine b s) ≡ 0) ↔ Accepts b s
    accepted-exactly = (accepts, λ a. ap number_of (accepts-reply a))

    -- all of them are counted then
    pub accepted-count : number_of (examine b s) ≡ 0 → examine b s ≡ plain ok (total b)
    accepted-count h = accepts-reply (accepts h)

    -- once accepted, no derivation of the query exists, and no trace to it, of any length
    pub accepted-derivation : number_of (examine b s) ≡ 0 → ¬ Derivable b (query b)
    accepted-derivation h = model-derivation (accepts h).is

    pub accepted-trace : Limits b → number_of (examine b s) ≡ 0 → ¬ Reachable b (Flagged b) (query b)
    accepted-trace l h = flags-model-trace l (accepts h).is

    -- nor in any system that has the laws
    pub accepted-system : Limits b → (S : System) → Laws (length b.arities) S → number_of (examine b s) ≡ 0 → ¬ Reachable b S (query b)
    accepted-system l S L h = model-trace l S L (accepts h).is

-- ---- refusal 25

each-before : {A : Type 0} (P : A → Type 0) {l : List A} {x y : A} (p : Within x l) (q : Within y l) → length q.before < length p.before → Each P p.before → P y
each-before P {l} {x} {y} p q h e =
    let i = length q.before in
    let one : get_or l i y ≡ y = rw q.is (get_or-append_seam q.before y q.behind y) in
    let two : get_or l i y ≡ get_or p.before i y = rw p.is (get_or-append p.before (x ∷ p.behind) y i h) in
    rw (sym two ∙ one) at (each_at P y p.before e i h)

module _ (b : Book) (m : List Constraint) (s : Step) (n : ℕ) (e : find b m 0 (walk b) ≡ broken n s) where
  found : First b m 0 (walk b) n s
  found = find-broken b m 0 (walk b) n s e

  -- the count is the position
  pub count-position : n ≡ position b s
  count-position = omega (arith, found.counted, (position-walk b s found.place).at)

  pub first-broken : FirstBroken b m s
  first-broken = record {
    is = (breaks-broken b m s (position-walk b s found.place).one).0 found.broke;
    earlier = λ t a l k.
        let p = position-walk b s found.place in
        let q = position-walk b t (tried b t a) in
        let w = each-before (Whole b m) found.place (tried b t a) (omega (arith, p.at, q.at)) found.earlier in
        never (sym w ∙ (breaks-broken b m t a).1 k);
  }

module _ (b : Book) (s : List ℕ) where
  broken-found : (m : List Constraint) (f : Finding) → find b m 0 (walk b) ≡ f → number_of (outcome f) ≡ 25 → (t : Step) × FirstBroken b m t × (outcome f ≡ broken_at b t)
  unfolding outcome
  broken-found m (clean n) e h = absurd (let z : ⊥ = omega arith in z)
  broken-found m (broken n t) e h = (t, first-broken b m t n e, rw (count-position b m t n e))

  broken-weighed : (ps : List Part) → number_of (weighed b ps) ≡ 25 → (t : Step) × FirstBroken b (rules ps) t × (weighed b ps ≡ broken_at b t)
  broken-weighed ps = weighed-by b ps (λ a. number_of a ≡ 25 → (t : Step) × FirstBroken b (rules ps) t × (a ≡ broken_at b t))
      (λ t h. absurd (let z : ⊥ = omega arith in z))
      (λ t u h. absurd (let z : ⊥ = omega arith in z))
      (λ t u h. broken-found (rules ps) (find b (rules ps) 0 (walk b)) refl h)

  broken-read : (y : Read (List Part)) → model_in s b.arities ≡ y → number_of (judged b y) ≡ 25 →
      (ps : List Part) × (c : Cursor) × (y ≡ Ok (ps, c)) × ((t : Step) × FirstBroken b (rules ps) t × (judged b y ≡ broken_at b t))
  unfolding judged model_in
  broken-read (Ok (ps, c)) e h = (ps, c, refl, broken-weighed ps h)
  broken-read (Err r) e h = absurd (fine (refused-read s b.arities e))
    where
      fine : (r.number ≡ 21) ⊎ (r.number ≡ 22) → ⊥
      fine (inl z) = omega arith
      fine (inr z) = omega arith

  -- a reply 25 names the first broken instance, at its position
  pub broken-exactly : number_of (examine b s) ≡ 25 → Breaks b s
  unfolding examine
  broken-exactly h =
      let (ps, c, e, w) = broken-read (model_in s b.arities) refl h in
      record { model = rules ps; held = record { parts = ps; end = c; reads = e; are = refl }; step = w.0; first = w.1; reply = w.2 }

-- ---- which numbers there are

module _ (b : Book) where
  among-outcome : (f : Finding) → Among model_numbers (outcome f).answer
  unfolding outcome has
  among-outcome (clean n) = among-ok
  among-outcome (broken n s) = among-refused 25 n tt

  among-judged : (s : List ℕ) (y : Read (List Part)) → model_in s b.arities ≡ y → Among model_numbers (judged b y).answer
  unfolding judged model_in has
  among-judged s (Ok (ps, c)) e =
      weighed-by b ps (λ y. Among model_numbers y.answer) (λ t. among-refused 23 _ tt) (λ t u. among-refused 24 _ tt) (λ t u. among-outcome (find b (rules ps) 0 (walk b)))
  among-judged s (Err r) e = among-refused _ _ (fine (refused-read s b.arities e))
    where
      fine : (r.number ≡ 21) ⊎ (r.number ≡ 22) → T (has model_numbers r.number)
      fine (inl z) = rw z tt
      fine (inr z) = rw z tt

  pub among-examine : (s : List ℕ) → Among model_numbers (examine b s).answer
  unfolding examine
  among-examine s = among-judged s (model_in s b.arities) refl
