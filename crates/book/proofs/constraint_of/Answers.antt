use Rattle.book.specs.Read.{constraint_of}
use Rattle.book.specs.Span.{Spans, spans-by}
use Rattle.book.specs.Lent.{handed-is}
use Rattle.book.proofs.constraint_of.Goals.{After-constraint_span-p}
use Rattle.book.proofs.constraint_of.Goals as goal

-- what the span tells
known : (c : After-constraint_span-p) → Spans c.args.book.now c.constraint_span-p.result (constraint_of c.args.book.now c.args.k)
known c = spans-by _ _ c.constraint_span-p.ensures

pub slice_bounds-result-count : goal.slice_bounds-result-count
slice_bounds-result-count c = (known (goal.at.slice_bounds-result-count c).After-constraint_span-p).ordered

pub slice_bounds-result-start : goal.slice_bounds-result-start
slice_bounds-result-start c = (known (goal.at.slice_bounds-result-start c).After-constraint_span-p).ordered

pub slice_bounds-result-end : goal.slice_bounds-result-end
slice_bounds-result-end c = (known (goal.at.slice_bounds-result-end c).After-constraint_span-p).inside

pub returns : goal.returns
returns c = handed-is _ _ c.constraint_span-p.ensures
