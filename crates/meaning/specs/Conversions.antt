-- The two conversions, in every system that has the laws.
use Rattle.std.specs.Prelude.{◌≡◌, Bool, false, ℕ, zero, suc, ◌≤◌, length, take}
use Rattle.std.proofs.Math.Path.{refl}
use Rattle.std.proofs.Common.{sym, ap, ◌∙◌, zero-le, suc-le-suc, eqb-true, eq-eqb}
use Rattle.std.proofs.Math.Bool.{true}
use Rattle.std.proofs.Math.Option.{Option, none, some}
use mathlib.Core.List.{List, [], ◌∷◌, ◌++◌, reverse, reverse_aux, reverse-cons, reverse-reverse}
use Rattle.std.proofs.Math.Nat.{le_step}
use Rattle.std.proofs.lemmas.List.{length-reverse}
use Rattle.std.proofs.Math.Dec.{eqb}
use Rattle.std.proofs.lemmas.Bool.{eqb-false}
use Rattle.meaning.specs.Book.{Book, Fact, Step, Instance, head, body}
use Rattle.meaning.specs.Derivation.{Chain, last_head, Derives}
use Rattle.meaning.specs.System.{System, Enabled, Move, Follows, final, moves, steps, before, turn, back, last_writers}
use Rattle.meaning.specs.Wf.{Wf, head-there}
use Rattle.meaning.specs.Laws.{Laws}

-- ---- the moves of some steps

module _ (b : Book) (S : System) where
  pub moves-length : (σ : S.State) (τ : List Step) → length (moves b S σ τ) ≡ length τ
  moves-length σ [] = refl
  moves-length σ (s ∷ τ) = ap suc (moves-length (S.put (head b s) σ) τ)

  pub steps-moves : (σ : S.State) (τ : List Step) → steps b S (moves b S σ τ) ≡ τ
  steps-moves σ [] = refl
  steps-moves σ (s ∷ τ) = ap (λ (l : List Step). s ∷ l) (steps-moves (S.put (head b s) σ) τ)

  -- a trace is settled by its first state and its steps
  pub follows-moves : (σ : S.State) (ms : List (Move b S)) → Follows b S σ ms → ms ≡ moves b S σ (steps b S ms)
  follows-moves σ [] h = refl
  follows-moves σ (m ∷ ms) h =
      λ i. record { step = m.step; next = h.2 i } ∷ (follows-moves m.next ms h.3 ∙ ap (λ (x : S.State). moves b S x (steps b S ms)) h.2) i

  -- the first k moves of a trace are a trace: what is shown of a last state holds of every state
  pub follows-take : (k : ℕ) (σ : S.State) (ms : List (Move b S)) → Follows b S σ ms → Follows b S σ (take k ms)
  follows-take zero σ ms h = tt
  follows-take (suc k) σ [] h = tt
  follows-take (suc k) σ (m ∷ ms) h = (h.0, h.1, h.2, follows-take k m.next ms h.3)

-- ---- one more step at a derivation's end

module _ (b : Book) (s : Step) where
  chain_more : (o : Option Fact) (d : List Step) → Chain b o d → Instance b s → body b s ≡ last_head b o d → Chain b o (d ++ (s ∷ []))
  chain_more o [] c i e = (i, e, tt)
  chain_more o (t ∷ d) c i e = (c.0, c.1, chain_more (some (head b t)) d c.2 i e)

  last_more : (o : Option Fact) (d : List Step) → last_head b o (d ++ (s ∷ [])) ≡ some (head b s)
  last_more o [] = refl
  last_more o (t ∷ d) = last_more (some (head b t)) d

  derives-more : (d : List Step) → Chain b none d → Instance b s → body b s ≡ last_head b none d → Derives b (d ++ (s ∷ [])) (head b s)
  derives-more d c i e = record { chain = chain_more none d c i e; last = last_more none d }

-- ---- the last writers

turn-length : (t : Bool) (s : Step) (o : Option Fact) (r : ℕ) (k : ℕ → List Step) (n : ℕ)
    → ((q : ℕ) → length (k q) ≤ n) → length (turn t s o r k) ≤ suc n
turn-length true s none r k n h = suc-le-suc zero-le
turn-length true s (some g) r k n h = suc-le-suc (h g.rel)
turn-length false s o r k n h = le_step (h r)

back-length : (b : Book) (r : ℕ) (τ : List Step) → length (back b r τ) ≤ length τ
unfolding back
back-length b r [] = zero-le
back-length b r (s ∷ τ) = turn-length (eqb (head b s).rel r) s (body b s) r (λ q. back b q τ) (length τ) (λ q. back-length b q τ)

-- no more of them than steps
pub writers-length : (b : Book) (r : ℕ) (τ : List Step) → length (last_writers b r τ) ≤ length τ
unfolding last_writers
writers-length b r τ = rw length-reverse (rw length-reverse at (back-length b r (reverse τ)))

-- e, newest first, is all of the walk back from a step's body, and with the step it is all of the walk back from its head
back-own : (b : Book) (s : Step) (e : List Step) → before (body b s) (λ q. back b q e) ≡ e → back b (head b s).rel (s ∷ e) ≡ s ∷ e
unfolding back
back-own b s e h = rw (eq-eqb (head b s).rel (head b s).rel refl) (ap (λ (l : List Step). s ∷ l) h)

back_whole : (b : Book) (o : Option Fact) (d e : List Step) → Chain b o d → before o (λ q. back b q e) ≡ e
    → before (last_head b o d) (λ q. back b q (reverse_aux d e)) ≡ reverse_aux d e
back_whole b o [] e c h = h
back_whole b o (s ∷ d) e c h = back_whole b (some (head b s)) d (s ∷ e) c.2 (back-own b s e (rw c.1 h))

-- all of a derivation's steps are its last writers
pub writers-derivation : (b : Book) (d : List Step) (f : Fact) → Derives b d f → last_writers b f.rel d ≡ d
unfolding last_writers
writers-derivation b d f h = ap reverse (rw h.last at (back_whole b none d [] h.chain refl)) ∙ reverse-reverse d

-- ---- in a system that has the laws

-- every state of a trace fits
pub fits-final : (b : Book) (S : System) (L : Laws (length b.arities) S) (σ : S.State) (ms : List (Move b S)) → L.Fits σ → Follows b S σ ms → L.Fits (final b S σ ms)
fits-final b S L σ [] f h = f
fits-final b S L σ (m ∷ ms) f h = fits-final b S L m.next ms (rw h.2 (L.fits-put σ (head b m.step) f)) h.3

module _ (b : Book) (S : System) (L : Laws (length b.arities) S) (w : Wf b) where
  -- ---- derivation to trace: the steps are the same

  pub forth : (σ : S.State) (o : Option Fact) (d : List Step) → L.Fits σ → Enabled S o σ → Chain b o d
      → Follows b S σ (moves b S σ d) × Enabled S (last_head b o d) (final b S σ (moves b S σ d))
  forth σ o [] f e c = (tt, e)
  forth σ o (s ∷ d) f e c =
      let (t, h) = forth (S.put (head b s) σ) (some (head b s)) d (L.fits-put σ (head b s) f) (L.put_holds σ (head b s) f (head-there w s c.0)) c.2 in
      ((c.0, rw c.1 e, refl, t), h)

  -- ---- trace to derivation

  -- the last writers among the steps so far, newest first, derive each fact that the state holds
  abbrev Told : List Step → S.State → Type 0
  Told τ σ = (g : Fact) → S.Holds g σ → Derives b (reverse (back b g.rel τ)) g

  told-put : (s : Step) (τ : List Step) (σ : S.State) → L.Fits σ → Instance b s → Enabled S (body b s) σ → Told τ σ → Told (s ∷ τ) (S.put (head b s) σ)
  unfolding back
  told-put s τ σ f i e told g h = go (eqb (head b s).rel g.rel) refl (body b s) refl
    where
      -- this step wrote the relation, so it wrote the fact
      wrote : eqb (head b s).rel g.rel ≡ true → head b s ≡ g
      wrote t = L.put_same σ (head b s) g f (head-there w s i) (eqb-true (head b s).rel g.rel t) h

      go : (t : Bool) → eqb (head b s).rel g.rel ≡ t → (o : Option Fact) → body b s ≡ o → Derives b (reverse (turn t s o g.rel (λ q. back b q τ))) g
      go true t none o = rw (← (wrote t)) (derives-more b s [] tt i o)
      go true t (some q) o =
          let d : Derives b (reverse (back b q.rel τ)) q = told q (rw o at e) in
          rw (reverse-cons, ← (wrote t)) (derives-more b s (reverse (back b q.rel τ)) d.chain i (o ∙ sym d.last))
      go false t q o = told g (L.put_other σ (head b s) g (eqb-false (head b s).rel g.rel t) h)

  told-final : (σ : S.State) (ms : List (Move b S)) (τ : List Step) → L.Fits σ → Follows b S σ ms → Told τ σ → Told (reverse_aux (steps b S ms) τ) (final b S σ ms)
  told-final σ [] τ f h told = told
  told-final σ (m ∷ ms) τ f h told =
      let s = m.step in
      told-final m.next ms (s ∷ τ) (rw h.2 (L.fits-put σ (head b s) f)) h.3 (rw h.2 (told-put s τ σ f h.0 h.1 told))

  pub writers-trace : (σ : S.State) (ms : List (Move b S)) (f : Fact) → S.Init σ → Follows b S σ ms → S.Holds f (final b S σ ms)
      → Derives b (last_writers b f.rel (steps b S ms)) f
  unfolding last_writers
  writers-trace σ ms f i h k = told-final σ ms [] (L.fits-init σ i) h (λ g n. absurd (L.init-empty σ g i n)) f k
