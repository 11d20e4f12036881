use Rattle.text.specs.Calls.{print-fair}
use Rattle.console.proofs.Laws.{wrote-within}
use Rattle.text_cases.proofs.print_case.Goals as goal

pub print_room-requires : goal.print_room-requires
print_room-requires g c = rw c.unwrap_or.ensures (wrote-within (print-fair _ _) c.print-answer.ensures)
