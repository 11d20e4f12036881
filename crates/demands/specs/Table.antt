-- Document 01's cases marked P, under "A small book and what happens to it": one table, by computation. Book B stands in `book`'s Example, the lists D and
-- T (its trace) in `facts`' Example. The goal is relation 1, which has no places.
use Rattle.std.specs.Prelude.{ℕ, ◌≡◌, refl, Bool, true, false, take, set, replicate, ℤ, pos, negsuc}
use mathlib.Core.List.{List, [], ◌∷◌, flat_map}
use Rattle.whole.specs.Bytes.{u16_at, u32_at, i16_at, i32_at}
use Rattle.meaning.specs.Constraint.{plus, is0, leaves, holds}
use Rattle.meaning.specs.Book.{place_window, variable_window, head, body}
use Rattle.cursor.specs.Steps.{pick, kinds, value_then, byte_at, below_at, relation_at, variable_at, skip_at, number_at, kind_at, sum_at, remains_at, node_at}
use Rattle.cursor.specs.Walk.{follow, constraint_at}
use Rattle.cursor.specs.Clause.{arguments_at, fact_at, body_at, parts_at, clause_at}
use Rattle.cursor.specs.Tree.{coefficients_at, sum_of, grow, tree_at}
use Rattle.cursor.specs.Meaning.{atom_in, body_in, tree_of, tree_in, clause_in, clause_or}
use Rattle.book.specs.Example.{book_b}
use Rattle.book.specs.Read.{sized, headed, trailer, top_arity, arity_at, arities_at, record_at, clauses_at, read, entry_at}
use Rattle.book.specs.Meaning.{up_to, book_in}
use Rattle.book.specs.Meaning as held
use Rattle.book.specs.Answer as books
use Rattle.reply.specs.Answer as reply
use Rattle.reply.specs.Answer.{need, and_then}
use Rattle.reply.specs.Room.{Due, written}
use Rattle.lists.specs.Compare.{eq_z, eq_vals, same, inside, all_in, first_out, first_diff}
use Rattle.lists.specs.Instance.{clause_number, judge_clause, judge, judge_enabled}
use Rattle.lists.specs.Walker as walkers
use Rattle.lists.specs.Derivation.{judge_step, check, judge_goal, judge_length, check_derivation}
use Rattle.lists.specs.Trace.{flat, sum, cut, all_rows, first_out_rows, state_numbers, size, move_numbers, trace_numbers, has, meets, judge_move, first_of, judge_first, check_walk, check_trace}
use Rattle.lists.specs.Convert.{derivation_steps, as_trace, to_trace}
use Rattle.asked.specs.Example.{list_d, list_t}
use Rattle.book.specs.OnBook.{after, on_book}
use Rattle.derivation.specs.Answer as derivations
use Rattle.trace.specs.Answer as traces
use Rattle.convert.specs.Calls.{to_trace_due}
use Rattle.models.specs.Read as models
use Rattle.models.specs.Read.{number_in, in_model, rule_then, model_in}
use Rattle.models.specs.Assignments.{natural, width, up_from, assignments, count, rank}
use Rattle.models.specs.Walk as walks
use Rattle.models.specs.Walk.{tries_from, walk, total, position, satisfies, met, breaks, find}
use Rattle.models.specs.Answer.{outcome, weighed, judged, examine, model_answer}
use Rattle.reply.specs.Then.{go_on}

-- ---- the words of the table

-- number n at place p
infix 20 ◌says◌at◌
abbrev ◌says◌at◌ : ℕ × ℕ → ℕ → ℕ → Type 0
◌says◌at◌ x n p = x ≡ (n, p)

-- B with one byte set; hi is byte 48
abbrev byte : ℕ → ℕ → List ℕ
byte i v = set book_b i v

abbrev listed : reply.Answer → ℕ × ℕ
listed a = (reply.number a, reply.place a)

abbrev reading : List ℕ → ℕ × ℕ
reading s = listed (on_book s reply.refused (λ b. reply.ok))

abbrev derivation : List ℕ → List ℤ → ℕ × ℕ
derivation s l = listed (derivations.answer s l 1 [])

abbrev trace : List ℕ → List ℤ → ℕ × ℕ
trace s l = listed (traces.answer s l 1 [])

-- the conversion of a list into a room of n numbers, each 7
abbrev converted : List ℤ → ℕ → Due ℤ
converted l n = to_trace_due book_b l 1 [] (replicate n (pos 7))

abbrev conversion : List ℤ → ℕ → ℕ × ℕ
conversion l n = listed (converted l n).answer

abbrev model : List ℕ → List ℕ → ℕ × ℕ
model s m = listed (model_answer s m).answer

abbrev examined : List ℕ → List ℕ → ℕ
examined s m = (model_answer s m).count

-- true for the relation with a place, not true for the query
abbrev model_b : List ℕ
model_b = 0 ∷ 3 ∷ 0 ∷ []

-- over one variable: remainder with d = 3 and r = 2
abbrev remainder : ℤ → Bool
remainder v = holds (v ∷ []) (tree_in (6 ∷ 1 ∷ 0 ∷ 0 ∷ 0 ∷ 0 ∷ 0 ∷ 3 ∷ 0 ∷ 2 ∷ 0 ∷ []) 1 0)

-- ---- the table

pub table :
    -- B accepted. Byte 58 = 2: 2 at 44. Byte 0 = 9: 3 at 0. Byte 40 = 14: 4 at 40. Byte 5 = 1: 6 at 5.
    (reading book_b says 0 at 0)
    × (reading (byte 58 2) says 2 at 44)
    × (reading (byte 0 9) says 3 at 0)
    × (reading (byte 40 14) says 4 at 40)
    × (reading (byte 5 1) says 6 at 5)
    -- Derivation D accepted; its trace is T (31 numbers). Room 30: 9 at 31.
    × (derivation book_b list_d says 0 at 0)
    × (conversion list_d 31 says 0 at 31)
    × ((converted list_d 31).room ≡ list_t)
    × (conversion list_d 30 says 9 at 31)
    -- First 11 numbers of D: 17 at 11. 0 0, 1 1 2: 16 at 2. With hi = 2, D: 14 at 10.
    × (derivation book_b (take 11 list_d) says 17 at 11)
    × (derivation book_b (pos 0 ∷ pos 0 ∷ pos 1 ∷ pos 1 ∷ pos 2 ∷ []) says 16 at 2)
    × (derivation (byte 48 2) list_d says 14 at 10)
    -- The trace with number 6 set to 1: 19 at 6. Trace 0 0 0: 17 at 3.
    × (trace book_b (set list_t 6 (pos 1)) says 19 at 6)
    × (trace book_b (pos 0 ∷ pos 0 ∷ pos 0 ∷ []) says 17 at 3)
    -- Model 00 03 00: 25 at 24. With hi = 2: accepted, 15 examined.
    × (model book_b model_b says 25 at 24)
    × (model (byte 48 2) model_b says 0 at 0)
    × (examined (byte 48 2) model_b ≡ 15)
    -- Remainder with d = 3, r = 2: true of 5, false of −1.
    × (remainder (pos 5) ≡ true)
    × (remainder (negsuc 0) ≡ false)
unfolding flat_map u16_at u32_at i16_at i32_at plus is0 leaves holds place_window variable_window head body pick kinds value_then go_on byte_at below_at relation_at variable_at skip_at number_at kind_at sum_at remains_at node_at follow constraint_at arguments_at fact_at body_at parts_at clause_at coefficients_at sum_of grow tree_at atom_in body_in tree_of tree_in clause_in clause_or sized headed trailer top_arity arity_at arities_at record_at clauses_at read entry_at up_to book_in held.clause_number books.answer books.told need and_then eq_z eq_vals same inside all_in first_out first_diff clause_number judge_clause judge judge_enabled walkers.walk judge_step check judge_goal judge_length check_derivation flat sum cut all_rows first_out_rows state_numbers size move_numbers trace_numbers has meets judge_move first_of judge_first check_walk check_trace derivation_steps as_trace written to_trace after on_book derivations.answer traces.answer models.parts_at number_in in_model rule_then model_in natural width up_from assignments count rank tries_from walk walks.sum total position satisfies met breaks find outcome weighed judged examine model_answer
table = (refl, refl, refl, refl, refl, refl, refl, refl, refl, refl, refl, refl, refl, refl, refl, refl, refl, refl, refl)
