use Rattle.std.proofs.Common.{sym, ap, drop, ◌+◌, ◌≡◌, ◌∙◌, Ok}
use Rattle.reply.specs.Answer.{told}
use Rattle.lists.specs.Instance.{judge}
use Rattle.instance.specs.Values.{number_in}
use Rattle.reply.specs.Then.{handed}
use Rattle.book.specs.Held.{meant}
use Rattle.instance.proofs.Laws.{number_is, judge-none, judge-some, giving-refused, giving-stop, giving-on}
use Rattle.instance.proofs.instance_at.Goals as goal
use Rattle.instance.proofs.instance_at.Goals.{After-judged}

pub returns-then-count-k : goal.returns-then-count-k
returns-then-count-k c =
    let a = c.args in
    giving-refused _ _ (judge-none _ _ a.table.now.book.accepted a.list.now a.i c.number_at-k.ensures a.more c.if-count-k.true) c.refuse.ensures

due : (c : After-judged) → c.judged.result ≡ told (judge (meant c.args.table.now.book) (number_in c.args.table.now.book.bytes.now c.args.table.now.book.header c.args.list.now c.args.i) c.args.more (drop (c.args.i + 1) c.args.list.now) c.args.i)
due c =
    let a = c.args in
    c.judged.ensures ∙ sym (ap told (judge-some _ _ a.table.now.book.accepted a.list.now a.i c.number_at-k.ensures a.more c.if-count-k.false))

pub returns-in_err-judged : goal.returns-in_err-judged
returns-in_err-judged c = giving-stop _ _ (due (goal.at.returns-in_err-judged c).After-judged) c.in_err-judged.was (handed _ c.from_residual.ensures)

-- what is judged is the clause that the number names
pub returns : goal.returns
returns c =
    let x = (goal.at.returns c).After-judged in
    let a = x.args in
    giving-on _ _ (due x) c.in_ok-judged.was (ap Ok (sym (number_is _ _ a.table.now.book.accepted a.list.now a.i x.number_at-k.ensures)))
