-- The laws that a system must have for the theorems, and the systems of places have them.
use Rattle.std.specs.Prelude.{◌≡◌, refl, ◌≢◌, true, false, [], ℕ, zero, suc, ◌<◌, length, get_or, replicate, T}
use Rattle.std.proofs.Common.{sym, ◌∙◌, arith, length-set, get_or-set_same, get_or-set_other}
use Rattle.std.proofs.lemmas.List.{length-map, length-replicate}
use Rattle.meaning.specs.Book.{Book, Fact}
use Rattle.meaning.specs.System.{System}
use Rattle.meaning.specs.State.{Control, State, with_places, bit, flags}
use Rattle.meaning.specs.Rows.{shaped-length}

-- over R relations: a state that fits has a place for each
pub record Laws (R : ℕ) (S : System) : Type 1 where
  pub Fits : S.State → Type 0
  pub fits-init : (σ : S.State) → S.Init σ → Fits σ
  pub fits-put : (σ : S.State) (f : Fact) → Fits σ → Fits (S.put f σ)
  pub init-fresh : (σ : S.State) → S.Init σ → S.Fresh σ
  pub init-empty : (σ : S.State) (f : Fact) → S.Init σ → ¬ S.Holds f σ
  pub put_holds : (σ : S.State) (f : Fact) → Fits σ → f.rel < R → S.Holds f (S.put f σ)
  pub put_same : (σ : S.State) (f g : Fact) → Fits σ → f.rel < R → f.rel ≡ g.rel → S.Holds g (S.put f σ) → f ≡ g
  pub put_other : (σ : S.State) (f g : Fact) → f.rel ≢ g.rel → S.Holds g (S.put f σ) → S.Holds g σ

-- what is asked of the part beside the places
pub record ControlLaws (C : Control) : Type 1 where
  pub Fit : ℕ → C.Ctl → Type 0
  pub fit-start : (R : ℕ) → Fit R (C.start R)
  pub fit_next : (R : ℕ) (k : C.Ctl) (r : ℕ) → Fit R k → Fit R (C.next r k)
  pub fit-width : (R : ℕ) (k : C.Ctl) → Fit R k → length (C.code k) ≡ C.width R
  pub start-free : (R : ℕ) → T (C.free (C.start R))
  pub start-empty : (R r : ℕ) → ¬ T (C.held r (C.start R))
  pub next-held : (R : ℕ) (k : C.Ctl) (r : ℕ) → Fit R k → r < R → T (C.held r (C.next r k))
  pub next-other : (k : C.Ctl) (q r : ℕ) → q ≢ r → T (C.held r (C.next q k)) → T (C.held r k)

-- a control that fits, and a row for each relation
pub record Sized (b : Book) (C : Control) (K : ControlLaws C) (σ : State C) : Type 0 where
  pub fit : K.Fit (length b.arities) σ.ctl
  pub size : length σ.rows ≡ length b.arities

module _ (b : Book) (C : Control) (K : ControlLaws C) where
  unfoldable pub laws : Laws (length b.arities) (with_places b C)
  laws = record {
    Fits = Sized b C K;
    fits-init = λ σ i. record { fit = rw i.started (K.fit-start (length b.arities)); size = shaped-length _ b.arities σ.rows i.shaped };
    fits-put = λ σ f h. record { fit = K.fit_next (length b.arities) σ.ctl f.rel h.fit; size = rw length-set h.size };
    init-fresh = λ σ i. rw i.started (K.start-free (length b.arities));
    init-empty = λ σ f i h. K.start-empty (length b.arities) f.rel (rw i.started at h.held);
    put_holds = λ σ f h l. record { held = K.next-held (length b.arities) σ.ctl f.rel h.fit l; row = get_or-set_same σ.rows f.rel f.vals [] (omega (arith, h.size)) };
    put_same = λ σ f g h l e k. λ i. record { rel = e i; vals = (sym (get_or-set_same σ.rows f.rel f.vals [] (omega (arith, h.size))) ∙ rw (← e) at k.row) i };
    put_other = λ σ f g n k. record { held = K.next-other σ.ctl f.rel g.rel n k.held; row = sym (get_or-set_other σ.rows f.rel g.rel f.vals [] (λ e. n (sym e))) ∙ k.row };
  }

-- ---- flags

pub no_flag : (R r : ℕ) → get_or (replicate R false) r false ≡ false
no_flag zero r = refl
no_flag (suc R) zero = refl
no_flag (suc R) (suc r) = no_flag R r

unfoldable pub flags-laws : ControlLaws flags
flags-laws = record {
  Fit = λ R k. length k ≡ R;
  fit-start = λ R. length-replicate R false;
  fit_next = λ R k r h. rw length-set h;
  fit-width = λ R k h. length-map k bit ∙ h;
  start-free = λ R. tt;
  start-empty = λ R r h. rw no_flag at h;
  next-held = λ R k r h l. rw (get_or-set_same k r true false (omega (arith, h))) tt;
  next-other = λ k q r n h. rw (get_or-set_other k q r true false (λ e. n (sym e))) at h;
}
