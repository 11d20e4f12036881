-- The two passes of `print`: what the first measures, and what the second leaves.
use mathlib.Core.Path.{◌≡◌, refl, ap, ◌∙◌}
use mathlib.Core.List.{List, [], ◌++◌}
use Prim.Native.Nat.{ℕ, ◌≤◌, ◌<◌}
use native.Mathlib.Omega.{arith}
use lib.ListN.{length}
use Rattle.std.specs.Prelude.{Ok, Err}
use Rattle.reply.specs.Answer.{ok, refuse, says, Outcome}
use Rattle.reply.specs.Room.{written, Leaves, written-wrote}
use Rattle.reply.proofs.Room.{written-needs}
use Rattle.put.specs.Room.{paste, sat, top}
use Rattle.put.proofs.Laws.{paste-out, paste-front}

-- t is the text: a first pass over an empty room wrote nothing and measured it
module _ (t d : List ℕ) (small : length t ≤ top) {e : List ℕ} {m : ℕ} (wrote : e ≡ paste [] 0 t) (size : m ≡ sat (length t)) where
  nothing : e ≡ []
  nothing = wrote ∙ paste-out t [] 0 (omega arith)

  measured : m ≡ length t
  measured = omega (arith, size)

  room-size : length (e ++ d) ≡ length d
  room-size = ap (λ (x : List ℕ). length (x ++ d)) nothing

  pub prints-short : {x : Outcome} → length (e ++ d) < m → x ≡ Err (refuse 9 m) → Leaves (written ok t d) x (e ++ d)
  unfolding says
  prints-short l q = rw (q, written-needs t d 0 (omega (arith, measured, room-size)), measured, nothing) (record { tells = refl; room = refl })

  pub prints-written : {g : List ℕ} → m ≤ length (e ++ d) → g ≡ paste (e ++ d) 0 t → Leaves (written ok t d) (Ok m) g
  unfolding says
  prints-written l v =
      let k : length t ≤ length d = omega (arith, measured, room-size) in
      rw (written-wrote t d 0 k, measured) (record { tells = refl; room = v ∙ rw nothing (paste-front t d k) })
