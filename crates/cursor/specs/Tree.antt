-- The constraint that a part of a book holds, as a tree.
use Prim.Native.Nat.{ℕ, zero, suc, ◌+◌, ◌*◌}
use Rattle.std.specs.Prelude.{◌≡◌, List, [], ◌∷◌, ℤ, Ok, Err}
use Rattle.std.proofs.Math.Path.{refl}
use Rattle.std.proofs.Common.{◌∙◌}
use Rattle.meaning.specs.Constraint.{Sum, Constraint, truth, at_most, equal, not, and, or, remainder}
use Rattle.whole.specs.Bytes.{i16_at, i32_at}
use Rattle.cursor.specs.declared.Cursor.{Cursor}
use Rattle.cursor.specs.declared.Comparison.TheVariants.{AtMost, Equal}
use Rattle.cursor.specs.declared.Node.{Node}
use Rattle.cursor.specs.declared.Node.TheVariants.{True, Compare, Not, And, Or, Remainder}
use Rattle.reply.specs.Answer.{refuse}
use Rattle.cursor.specs.Steps.{byte_at, node_at, Step, Read}
use Rattle.cursor.specs.Walk.{follow, constraint_at}
use Rattle.reply.specs.Then.{go_on, ◌>>=◌}

unfoldable pub coefficients_at : ℕ → List ℕ → ℕ → List ℤ
coefficients_at zero s p = []
coefficients_at (suc v) s p = i16_at s p ∷ coefficients_at v s (p + 2)

unfoldable pub sum_of : List ℕ → ℕ → ℕ → Sum
sum_of s v p = record { coefficients = coefficients_at v s p; constant = i32_at s (p + v * 2) }

-- where what was read ends, or the refusal
unfoldable pub moved : {A : Type 0} → Read A → Step
moved (Ok (a, c)) = Ok c
moved (Err r) = Err r

-- two of them, one after the other, as one
abbrev pub joined : (Constraint → Constraint → Constraint) → (Cursor → Read Constraint) → Cursor → Read Constraint
joined f read c = do
  (t, d) ← read c
  (u, e) ← read d
  Ok (f t u, e)

module _ (s : List ℕ) (v : ℕ) where
  unfoldable pub grow : Node → (Cursor → Read Constraint) → Cursor → Read Constraint
  grow True read c = Ok (truth, c)
  grow (Compare (AtMost a)) read c = Ok (at_most (sum_of s v a.at), c)
  grow (Compare (Equal a)) read c = Ok (equal (sum_of s v a.at), c)
  grow Not read c = read c >>= λ (t, d). Ok (not t, d)
  grow And read c = joined and read c
  grow Or read c = joined or read c
  grow (Remainder m) read c = Ok (remainder (sum_of s v m.sum.at) m.d m.r, c)

  unfoldable pub tree_at : ℕ → Cursor → Read Constraint
  tree_at zero c = byte_at s c >>= λ _. Err (refuse 7 c.at)
  tree_at (suc depth) c = do
    (n, next) ← node_at s v c
    grow n (tree_at depth) next

-- what the reader answers is where the tree ends, or the tree's refusal
module _ {A B : Type 0} where
  moved_then : (y : Read A) (f : A × Cursor → Read B) (k : Cursor → Step) (w : Step) → moved y ≡ w →
      ((a : A) (c : Cursor) → moved (f (a, c)) ≡ k c) → moved (y >>= f) ≡ (w >>= k)
  unfolding moved go_on
  moved_then (Ok (a, c)) f k w e h = rw (← e) (h a c)
  moved_then (Err r) f k w e h = rw (← e)

step-all : (w : Step) → (w >>= Ok) ≡ w
unfolding go_on
step-all (Ok c) = refl
step-all (Err r) = refl

module _ (s : List ℕ) (v : ℕ) where
  grow-follow : (n : Node) (read : Cursor → Read Constraint) (walk : Cursor → Step) → ((c : Cursor) → moved (read c) ≡ walk c) → (c : Cursor) →
      moved (grow s v n read c) ≡ follow n walk c
  unfolding moved grow follow
  grow-follow True read walk h c = refl
  grow-follow (Compare (AtMost a)) read walk h c = refl
  grow-follow (Compare (Equal a)) read walk h c = refl
  grow-follow Not read walk h c = moved_then (read c) _ Ok (walk c) (h c) (λ a d. refl) ∙ step-all (walk c)
  grow-follow And read walk h c =
      moved_then (read c) _ walk (walk c) (h c)
      (λ a d. moved_then (read d) _ Ok (walk d) (h d) (λ b e. refl) ∙ step-all (walk d))
  grow-follow Or read walk h c =
      moved_then (read c) _ walk (walk c) (h c)
      (λ a d. moved_then (read d) _ Ok (walk d) (h d) (λ b e. refl) ∙ step-all (walk d))
  grow-follow (Remainder m) read walk h c = refl

  node-moved : {A : Type 0} (y : Read A) (f : A × Cursor → Read Constraint) (g : A × Cursor → Step) → ((n : A) (c : Cursor) → moved (f (n, c)) ≡ g (n, c)) →
      moved (y >>= f) ≡ (y >>= g)
  unfolding moved go_on
  node-moved (Ok (n, c)) f g h = h n c
  node-moved (Err r) f g h = refl

  pub tree-read : (depth : ℕ) (c : Cursor) → moved (tree_at s v depth c) ≡ constraint_at depth s v c
  unfolding tree_at constraint_at moved
  tree-read zero c = node-moved (byte_at s c) _ _ (λ b d. refl)
  tree-read (suc d) c = node-moved (node_at s v c) _ _ (λ n e. grow-follow n (tree_at s v d) (constraint_at d s v) (tree-read d) e)
