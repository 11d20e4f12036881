-- Cases of the conversions beside document 01's, by computation: the rest of a room, a derivation that is refused, and the way back.
use Rattle.std.specs.Prelude.{ℕ, ◌≡◌, refl, List, [], ◌++◌, take, replicate, ℤ, pos}
use Rattle.whole.specs.Bytes.{u16_at, u32_at, i16_at, i32_at}
use Rattle.meaning.specs.Constraint.{plus, is0, leaves, holds}
use Rattle.meaning.specs.Book.{place_window, variable_window, head, body}
use Rattle.meaning.specs.System.{back, last_writers}
use Rattle.cursor.specs.Steps.{pick, kinds, value_then, byte_at, below_at, relation_at, variable_at, skip_at, number_at, kind_at, sum_at, remains_at, node_at}
use Rattle.cursor.specs.Walk.{follow, constraint_at}
use Rattle.cursor.specs.Clause.{arguments_at, fact_at, body_at, parts_at, clause_at}
use Rattle.cursor.specs.Tree.{coefficients_at, sum_of, grow, tree_at}
use Rattle.cursor.specs.Meaning.{atom_in, body_in, tree_of, tree_in, clause_in, clause_or}
use Rattle.book.specs.Read.{sized, headed, trailer, top_arity, arity_at, arities_at, record_at, clauses_at, read, entry_at}
use Rattle.book.specs.Meaning.{up_to, book_in}
use Rattle.book.specs.Meaning as books
use Rattle.book.specs.Answer as answers
use Rattle.reply.specs.Answer.{Answer, done, refused, need, and_then}
use Rattle.reply.specs.Room.{Due, written}
use Rattle.lists.specs.Compare.{eq_z, eq_vals, same, inside, all_in, first_out, first_diff}
use Rattle.lists.specs.Instance.{clause_number, judge_clause, judge, judge_enabled}
use Rattle.lists.specs.Walker.{walk}
use Rattle.lists.specs.Derivation.{numbers, judge_step, check, judge_goal, judge_length, check_derivation}
use Rattle.lists.specs.Trace.{flat, sum, cut, all_rows, first_out_rows, state_numbers, size, move_numbers, trace_numbers, has, meets, judge_move, first_of, judge_first, check_walk, check_trace}
use Rattle.lists.specs.Convert.{derivation_steps, trace_steps, as_trace, as_derivation, to_trace, to_derivation}
use Rattle.book.specs.Example.{book_b}
use Rattle.asked.specs.Example.{list_d, list_t}
use Rattle.book.specs.OnBook.{after, on_book}
use Rattle.convert.specs.Calls.{to_trace_due, to_derivation_due}
use Rattle.reply.specs.Then.{go_on}

-- the replies on book B for the goal relation 1, which has no places
abbrev over : List ℤ → List ℤ → Due ℤ
over l room = to_trace_due book_b l 1 [] room

abbrev return : List ℤ → List ℤ → Due ℤ
return l room = to_derivation_due book_b l 1 [] room

-- a room of n numbers
abbrev room : ℕ → List ℤ
room n = replicate n (pos 7)

abbrev leaving : Answer → List ℤ → Due ℤ
leaving a r = record { answer = a; room = r }

pub cases : (over list_d (room 33) ≡ leaving (done 31) (list_t ++ room 2))
    × (over (take 11 list_d) (room 31) ≡ leaving (refused 17 11) (room 31))
    × (return list_t (room 14) ≡ leaving (done 13) (list_d ++ room 1))
    × (return list_t (room 12) ≡ leaving (refused 9 13) (room 12))
    × (return (take 30 list_t) (room 13) ≡ leaving (refused 13 26) (room 13))
unfolding plus is0 leaves holds place_window variable_window head body u16_at u32_at i16_at i32_at pick kinds value_then go_on byte_at below_at relation_at variable_at skip_at number_at kind_at sum_at remains_at node_at follow constraint_at arguments_at fact_at body_at parts_at clause_at coefficients_at sum_of grow tree_at atom_in body_in tree_of tree_in clause_in clause_or sized headed trailer top_arity arity_at arities_at record_at clauses_at read entry_at up_to book_in books.clause_number answers.answer answers.told need and_then eq_z eq_vals inside all_in first_out first_diff clause_number judge_clause judge judge_enabled walk judge_goal judge_length flat sum cut all_rows first_out_rows state_numbers size has meets judge_move first_of judge_first check_walk check_trace numbers judge_step check check_derivation same move_numbers trace_numbers back last_writers derivation_steps trace_steps as_trace as_derivation written to_trace to_derivation after on_book
cases = (refl, refl, refl, refl, refl)
