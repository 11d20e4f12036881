use Rattle.std.proofs.Common.{rules}
use Rattle.reply.specs.Then.{go_on}
use Rattle.book.specs.Read.{read}
use Rattle.book.specs.Answer.{answers}
use Rattle.book.proofs.Laws.{front_length}
use Rattle.book.proofs.Good.{good-relations, good_start, good-index}
use Rattle.book.proofs.read_book.Goals as goal

pub slice_bounds-arities-end : goal.slice_bounds-arities-end
slice_bounds-arities-end c = front_length _ _ (good_start _ _ c.in_ok-h.ensures)

pub clauses-requires : goal.clauses-requires
clauses-requires c =
    let e = c.in_ok-h.ensures in
    record { n_le_start = good-relations _ _ e; start_in_bounds = good_start _ _ e; count_in_bounds = good-index _ _ e }

pub returns-in_err-h : goal.returns-in_err-h
unfolding read go_on
returns-in_err-h c = answers _ _ (search rules)

pub returns-in_err-c : goal.returns-in_err-c
unfolding read go_on
returns-in_err-c c = answers _ _ (search rules)

pub returns-in_err-clauses : goal.returns-in_err-clauses
unfolding read go_on
returns-in_err-clauses c = answers _ _ (search rules)

pub returns : goal.returns
unfolding read go_on
returns c = answers _ _ (search rules)
