-- What an accepted trailer tells: each field where the format's table has it, each rule kept.
use Rattle.std.specs.Prelude.{ℕ, ◌+◌, ◌-◌, ◌*◌, ◌<◌, ◌≤◌, ◌≡◌, refl, not, List, length, get_or, T, ◌≤ℤ◌, Ok}
use Rattle.std.proofs.Common.{ltb-true, ltb-false, eqb-true}
use Rattle.std.specs.Int.Signed.{lt_z, lt_z_no}
use Rattle.whole.specs.Bytes.{u16_at, i32_at}
use Rattle.cursor.specs.Steps.{value_then}
use Rattle.cursor.specs.Inverse.{pick-then, pick-else}
use Rattle.book.specs.declared.Header.{Header}
use Rattle.book.specs.Read.{sized, headed, trailer, read}
use Rattle.book.specs.Joined.{passed}
use Rattle.reply.specs.Then.{no_err}

-- the rules over the header, the length and the last two bytes
pub record Kept (h : Header) (len one nil : ℕ) : Type 0 where
  pub window : h.lo ≤ℤ h.hi
  pub some : 1 ≤ h.relations
  pub few : h.relations ≤ 16
  pub room : h.relations ≤ h.start
  pub count : h.count ≤ 64
  pub query : h.query < h.relations
  pub ones : one ≡ 1
  pub nils : nil ≡ 0
  pub all : h.start + h.count * 2 + 16 ≡ len

pub record Trailed (s : List ℕ) (h : Header) : Type 0 where
  pub long : 16 ≤ length s
  pub short : length s ≤ 60000
  pub lo : h.lo ≡ i32_at s (length s - 16)
  pub hi : h.hi ≡ i32_at s (length s - 16 + 4)
  pub start : h.start ≡ u16_at s (length s - 16 + 8)
  pub count : h.count ≡ u16_at s (length s - 16 + 10)
  pub relations : h.relations ≡ get_or s (length s - 16 + 12) 0
  pub query : h.query ≡ get_or s (length s - 16 + 13) 0
  pub kept : Kept h (length s) (get_or s (length s - 16 + 14) 0) (get_or s (length s - 16 + 15) 0)

kept_by : {h g : Header} {len one nil : ℕ} → headed h len one nil ≡ Ok g → (h ≡ g) × Kept h len one nil
unfolding headed sized
kept_by {h} {g} e =
    pick-else _ _ _ (no_err _) e (λ w e. pick-else _ _ _ (no_err _) e (λ a e. pick-else _ _ _ (no_err _) e
    (λ b e. pick-else _ _ _ (no_err _) e (λ c e. pick-else _ _ _ (no_err _) e (λ d e. pick-then _ _ _ (no_err _) e
    (λ f e. pick-then _ _ _ (no_err _) e (λ i e. pick-then _ _ _ (no_err _) e (λ j e. pick-then _ _ _ (no_err _) e
    (λ k e. (
      let same : h ≡ g = cc in same,
      record {
        window = lt_z_no (let t : T (not (lt_z h.hi h.lo)) = rw w tt in t);
        some = ltb-false _ _ a;
        few = ltb-false _ _ b;
        room = ltb-false _ _ c;
        count = ltb-false _ _ d;
        query = ltb-true _ _ f;
        ones = eqb-true _ _ i;
        nils = eqb-true _ _ j;
        all = eqb-true _ _ k;
      },
    ))))))))))

trailed-same : {s : List ℕ} {h g : Header} → h ≡ g → Trailed s h → Trailed s g
trailed-same e w = rw e at w

pub trailed : (s : List ℕ) (g : Header) → trailer s ≡ Ok g → Trailed s g
unfolding trailer value_then
trailed s g e =
    pick-else _ _ _ (no_err _) e (λ a e. pick-else _ _ _ (no_err _) e (λ b e.
    let (same, k) = kept_by e in
    trailed-same same (record {
      long = ltb-false _ _ a;
      short = ltb-false _ _ b;
      lo = refl;
      hi = refl;
      start = refl;
      count = refl;
      relations = refl;
      query = refl;
      kept = k;
    })))

pub read-trailed : (s : List ℕ) (g : Header) → read s ≡ Ok g → Trailed s g
read-trailed s g e = trailed s g (passed s g e).trailed
