-- A model written out: bytes hold it exactly when they are its constraints, each within the limits of its arity, one after the other.
use Rattle.std.specs.Prelude.{◌≡◌, refl, ◌↔◌, List, [], ◌∷◌, ℕ, ◌+◌, ◌-◌, length, Ok}
use Rattle.std.proofs.Common.{ap, arith, length-append, eq-eqb, eqb-true}
use Rattle.meaning.specs.Constraint.{Constraint}
use Rattle.meaning.specs.Limits.{ConstraintLimits, nodes}
use Rattle.cursor.specs.declared.Cursor.{Cursor}
use Rattle.cursor.specs.Steps.{pick}
use Rattle.cursor.specs.Inverse.{pick-then}
use Rattle.encode.specs.Encode.{spell, constraint_bytes}
use Rattle.encode.specs.Stands.{Stands, Bytes, stands-split, stands_self, stands-whole}
use Rattle.encode.specs.Reads.{tree-got}
use Rattle.encode.specs.WrittenTree.{Spans, spans-join, tree-written}
use Rattle.models.specs.Read.{Part, rules, rule_then, fresh, parts_at, model_in}
use Rattle.models.specs.Exact.{Holds, rule-went}
use Rattle.reply.specs.Then.{go_on, no_err, went, same-read}

-- one constraint for each arity, within the limits over so many variables
abbrev pub Fit : List ℕ → List Constraint → Type 0
Fit [] [] = Unit {0}
Fit [] (t ∷ ts) = ⊥
Fit (n ∷ ns) [] = ⊥
Fit (n ∷ ns) (t ∷ ts) = ConstraintLimits n t × Fit ns ts

-- where each constraint starts, the first at p
unfoldable pub placed : ℕ → List Constraint → List Part
placed p [] = []
placed p (t ∷ ts) = record { at = p; rule = t } ∷ placed (p + length (constraint_bytes t)) ts

pub placed-rules : (p : ℕ) (ts : List Constraint) → rules (placed p ts) ≡ ts
unfolding placed
placed-rules p [] = refl
placed-rules p (t ∷ ts) = ap (λ (l : List Constraint). t ∷ l) (placed-rules (p + length (constraint_bytes t)) ts)

pub parts-written : (s ns : List ℕ) (ts : List Constraint) (c : Cursor) → Fit ns ts → Stands s c.at (spell constraint_bytes ts) →
    c.at + length (spell constraint_bytes ts) ≡ length s → (e : Cursor) × (parts_at s ns c ≡ Ok (placed c.at ts, e))
unfolding parts_at placed spell rule_then go_on pick
parts-written s [] [] c f h l = let z : c.at ≡ length s = omega arith in (c, rw (eq-eqb c.at (length s) z))
parts-written s [] (t ∷ ts) c f h l = absurd f
parts-written s (n ∷ ns) [] c f h l = absurd f
parts-written s (n ∷ ns) (t ∷ ts) c f h l =
    let k = f.0 in
    let w = stands-split s c.at (constraint_bytes t) (spell constraint_bytes ts) h in
    let d : Cursor = record { at = c.at + length (constraint_bytes t); left = 64 - nodes t } in
    let one = tree-got s n t 16 k.shallow k.numbers c.at 64 (64 - nodes t) d.at (omega (arith, k.few)) refl w.0 in
    let (e, q) = parts-written s ns ts d f.1 w.1 (omega (arith, length-append (constraint_bytes t) (spell constraint_bytes ts))) in
    (e, rw (one, q))

pub written-holds : (ns : List ℕ) (m : List Constraint) → Fit ns m → Holds (spell constraint_bytes m) ns m
unfolding model_in
written-holds ns m f =
    let s = spell constraint_bytes m in
    let (e, q) = parts-written s ns m (record { at = 0; left = 0 }) f (stands_self s) (omega arith) in
    record { parts = placed 0 m; end = e; reads = q; are = placed-rules 0 m }

-- ---- and the other way: what was read stands there, written

parts-read : (s : List ℕ) → Bytes s → (ns : List ℕ) (c : Cursor) (ps : List Part) (e : Cursor) → parts_at s ns c ≡ Ok (ps, e) →
    Spans s c.at (length s) (spell constraint_bytes (rules ps)) × Fit ns (rules ps)
unfolding parts_at spell Stands
parts-read s y [] c ps e q =
    pick-then _ _ _ (no_err _) q λ t r.
    let z = (same-read r).0 in
    let a : c.at ≡ length s = eqb-true _ _ t in
    rw (← z) (record { stands = omega arith; past = omega arith }, tt)
parts-read s y (n ∷ ns) c ps e q =
    rule-went _ _ q λ t d p r. went _ _ _ no_err r λ (us, f) u v.
    let z = (same-read v).0 in
    let one = tree-written s y n 16 (fresh c) p in
    let rest = parts-read s y ns d us f u in
    rw (← z) (
      spans-join (constraint_bytes t) (spell constraint_bytes (rules us)) one.word rest.0,
      (record { numbers = one.keeps; few = omega (arith, one.count); shallow = one.shallow }, rest.1),
    )

pub holds-written : {s : List ℕ} → Bytes s → (ns : List ℕ) (m : List Constraint) → Holds s ns m → Fit ns m × (s ≡ spell constraint_bytes m)
unfolding model_in
holds-written {s} y ns m h =
    let (w, f) = parts-read s y ns (record { at = 0; left = 0 }) h.parts h.end h.reads in
    let a : Stands s 0 (spell constraint_bytes m) = rw h.are at w.stands in
    let l : length (spell constraint_bytes m) ≡ length s = rw h.are at (let z : length (spell constraint_bytes (rules h.parts)) ≡ length s = omega (arith, w.past) in z) in
    (rw h.are at f, stands-whole s (spell constraint_bytes m) a l)

-- bytes hold a model exactly when they are its constraints written out, within the limits
pub holds-exactly : {s : List ℕ} → Bytes s → (ns : List ℕ) (m : List Constraint) → Holds s ns m ↔ (Fit ns m × (s ≡ spell constraint_bytes m))
holds-exactly y ns m = (holds-written y ns m, λ h. rw h.1 (written-holds ns m h.0))
