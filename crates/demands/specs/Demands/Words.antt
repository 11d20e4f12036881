-- The words of the demands: where each is defined, and the calls by name.
use Rattle.std.specs.Prelude.{ℕ, ◌≡◌, List, [], ◌∷◌, T, ℤ}
use Rattle.reply.specs.Answer.{says, Answers}
use Rattle.reply.specs.Among.{has}
use Rattle.reply.specs.Room.{Due, Leaves}
use Rattle.book.specs.Answer as books
use Rattle.book.specs.Lent.{handed}
use Rattle.book.specs.OnBook.{refused_by}
use Rattle.lists.specs.Among.{in_derivation, in_trace}
use Rattle.derivation.specs.Answer as derivation
use Rattle.trace.specs.Answer as trace
use Rattle.models.specs.Written.{Fit}
use Rattle.model.specs.Reply.{Replies}
use Rattle.convert.specs.Calls.{to_trace_due, to_derivation_due}
use Rattle.text.specs.Reply.{print_due}
use Rattle.kit.specs.Promises.{Tells, Writes, ReadsBook, ChecksModel}
-- what a clause means: books, facts and instances; derivations; traces; models; document 01's limits
pub use Rattle.meaning.specs.Constraint.{Constraint}
pub use Rattle.meaning.specs.Book.{Book, Clause, Fact, Step, none_such, variable_window, Instance, body, query}
pub use Rattle.meaning.specs.Derivation.{Derives, Derivable}
pub use Rattle.meaning.specs.System.{Move, Follows, Reaches, Reachable, moves, steps, last_writers}
pub use Rattle.meaning.specs.State.{State, flags, Flagged, first, Initial, StepsTo}
pub use Rattle.meaning.specs.Stated.{StepsAlong}
pub use Rattle.meaning.specs.Model.{Satisfies, Model}
pub use Rattle.meaning.specs.Limits.{Limits}
-- bytes that are lent, with the place where they stand; and where a clause's constraint stands in the writing of a book
pub use Rattle.book.specs.Lent.{Lent}
pub use Rattle.encode.specs.Placed.{Placed, written_before}
-- how a book and a constraint are written, and that numbers are bytes
pub use Rattle.encode.specs.Encode.{encode, spell, constraint_bytes}
pub use Rattle.encode.specs.Stands.{Bytes}
-- derivations and traces as lists of numbers, and what the conversions make of them
pub use Rattle.lists.specs.Laws.{Asked}
pub use Rattle.lists.specs.Derivation.{numbers}
pub use Rattle.lists.specs.Trace.{trace_numbers}
pub use Rattle.lists.specs.Convert.{derivation_steps, trace_steps, as_trace, as_derivation}
-- the assignments of a book, how many they are, and the first that breaks a model
pub use Rattle.models.specs.Assignments.{width, count}
pub use Rattle.models.specs.Walk.{total}
pub use Rattle.models.specs.Exact.{Broken, FirstBroken, broken_at}
-- the text, and the parser of its lines
pub use Rattle.script.specs.Text.{script, text}
pub use Rattle.sexp.specs.Parse.{parse}
-- what a call answers: done with the length written (`ok`: with nothing), or refused with number and place; and what a success does to a room
pub use Rattle.reply.specs.Answer.{Answer, done, refused, ok, number, place}
pub use Rattle.reply.specs.Room.{Front}
-- the code's own replies: `Ok` with what was written or read, or `Err` with the refusal, which is `refuse number place`
pub use Rattle.std.specs.Prelude.{Ok, Err}
pub use Rattle.reply.specs.Answer.{Outcome, refuse}
pub use Rattle.book.specs.declared.Header.{Header}
pub use Rattle.book.specs.Read.{Reading}
pub use Rattle.book.specs.Joined.{Held}
-- the model check's reply, and what it says: its answer, count, clause and values
pub use Rattle.model.specs.declared.Reply.{Reply}
pub use Rattle.model.specs.Reply.{told}
pub use Rattle.models.specs.Answer.{number_of, plain}
-- the promise of ruahmitz_constraint: it returns the length r, and writes the start q
pub use Rattle.kit.specs.Promises.{Hands}

-- ---- what document 01 says of the bytes s of a book

-- they are accepted, and hold the book b
abbrev pub Holds : (s : List ℕ) (b : Book) → Type 0
Holds s b = books.answer s ≡ books.accepted b

-- they are refused with number n at place p
abbrev pub Refuses : (s : List ℕ) (n p : ℕ) → Type 0
Refuses s n p = books.answer s ≡ books.refused n p

-- the bytes m are the writing of the constraints ts, one for each relation of b, over its places and within the limits
abbrev pub Spells : (b : Book) (ts : List Constraint) (m : List ℕ) → Type 0
Spells b ts m = Fit b.arities ts × (m ≡ spell constraint_bytes ts)

-- ---- promises: each name stands for the one in that call's contract
-- Lent are the book's bytes s, a clause's number k, a list l, a goal g (a relation with values), a model's bytes m, a room d. Handed back are the reply x
-- and the room e as it is afterwards.

-- x = book::read_book(s)
abbrev pub ReadBook : (s : List ℕ) (x : Reading) → Type 0
ReadBook s x = books.Answers s x

-- x = book::constraint_of(m, k), where the book is lent as m: its bytes, and the place in memory where they stand
abbrev pub ConstraintOf : (m : Lent) (k : ℕ) (x : Lent) → Type 0
ConstraintOf m k x = x ≡ handed m k

-- x = derivation::check(s, l, g)
abbrev pub CheckDerivation : (s : List ℕ) (l : List ℤ) (g : Fact) (x : Outcome) → Type 0
CheckDerivation s l g x = Answers (derivation.answer s l g.rel g.vals) x

-- x = trace::check(s, l, g)
abbrev pub CheckTrace : (s : List ℕ) (l : List ℤ) (g : Fact) (x : Outcome) → Type 0
CheckTrace s l g x = Answers (trace.answer s l g.rel g.vals) x

-- x = model::check(s, m)
abbrev pub CheckModel : (s m : List ℕ) (x : Reply) → Type 0
CheckModel s m x = Replies s m x

-- x = convert::to_trace(s, l, g, d)
abbrev pub ToTrace : (s : List ℕ) (l : List ℤ) (g : Fact) (d : List ℤ) (x : Outcome) (e : List ℤ) → Type 0
ToTrace s l g d x e = Leaves (to_trace_due s l g.rel g.vals d) x e

-- x = convert::to_derivation(s, l, g, d)
abbrev pub ToDerivation : (s : List ℕ) (l : List ℤ) (g : Fact) (d : List ℤ) (x : Outcome) (e : List ℤ) → Type 0
ToDerivation s l g d x e = Leaves (to_derivation_due s l g.rel g.vals d) x e

-- x = text::print(s, d)
abbrev pub Print : (s d : List ℕ) (x : Outcome) (e : List ℕ) → Type 0
Print s d x e = Leaves (print_due s d) x e

-- the check's reply is `Ok 0`
abbrev pub IsDerivation : (s : List ℕ) (l : List ℤ) (g : Fact) → Type 0
IsDerivation s l g = CheckDerivation s l g (Ok 0)

abbrev pub IsTrace : (s : List ℕ) (l : List ℤ) (g : Fact) → Type 0
IsTrace s l g = CheckTrace s l g (Ok 0)

-- ---- the calls that answer by number

pub record Call : Type 1 where
  -- what it hands back, and what its room is made of (⊥, of which there is nothing, where it has none)
  pub Reply : Type 0
  pub Item : Type 0
  -- its promise: on the book's bytes s and the room d the reply is x and the room afterwards e
  pub Keeps : (s : List ℕ) (d : List Item) (x : Reply) (e : List Item) → Type 0
  -- what a reply says in document 01's numbers, and the numbers of the call's refusals beside the book's
  pub answer : Reply → Answer
  pub numbers : List ℕ
  -- the function for C: what it returns and writes, its promise, and what is to come out for a reply
  pub Out : Type 0
  pub KeepsInC : (s : List ℕ) (d : List Item) (o : Out) (e : List Item) → Type 0
  pub in_c : Reply → Out

-- number and place
abbrev pub pair : Answer → ℕ × ℕ
pair a = (number a, place a)

-- a check that answers `a`
abbrev pub answering : (a : List ℕ → Answer) (numbers : List ℕ) → Call
answering a ns = record {
  Reply = Outcome;
  Item = ⊥;
  Keeps = λ s d x e. Answers (a s) x;
  answer = says;
  numbers = ns;
  Out = ℕ × ℕ;
  KeepsInC = λ s d o e. Tells (a s) o.0 o.1;
  in_c = λ x. pair (says x);
}

-- a call that leaves `y` in the room d
abbrev pub filling : {A : Type 0} (y : List ℕ → List A → Due A) (numbers : List ℕ) → Call
filling {A} y ns = record {
  Reply = Outcome;
  Item = A;
  Keeps = λ s d x e. Leaves (y s d) x e;
  answer = says;
  numbers = ns;
  Out = ℕ × ℕ;
  KeepsInC = λ s d o e. Writes (y s d) o.0 o.1 e;
  in_c = λ x. pair (says x);
}

-- book::read_book and ruahmitz_book
abbrev pub read_book : Call
read_book = record {
  Reply = Reading;
  Item = ⊥;
  Keeps = λ s d x e. ReadBook s x;
  answer = λ x. says (refused_by x);
  numbers = [];
  Out = ℕ × ℕ;
  KeepsInC = λ s d o e. ReadsBook s o.0 o.1;
  in_c = λ x. pair (says (refused_by x));
}

-- derivation::check and ruahmitz_derivation, on the list l and the goal g
abbrev pub check_derivation : List ℤ → Fact → Call
check_derivation l g = answering (λ s. derivation.answer s l g.rel g.vals) in_derivation

-- trace::check and ruahmitz_trace
abbrev pub check_trace : List ℤ → Fact → Call
check_trace l g = answering (λ s. trace.answer s l g.rel g.vals) in_trace

-- model::check and ruahmitz_model, on the model's bytes m: also the count, the clause and the values
abbrev pub check_model : List ℕ → Call
check_model m = record {
  Reply = Reply;
  Item = ⊥;
  Keeps = λ s d x e. CheckModel s m x;
  answer = λ x. (told x).answer;
  numbers = 21 ∷ 22 ∷ 23 ∷ 24 ∷ 25 ∷ [];
  Out = (ℕ × ℕ) × (ℕ × ℕ × List ℤ);
  KeepsInC = λ s d o e. ChecksModel s m o.0.0 o.0.1 o.1.0 o.1.1 o.1.2;
  in_c = λ x. (pair (told x).answer, (x.count, x.clause, x.values));
}

-- convert::to_trace and ruahmitz_to_trace
abbrev pub to_trace : List ℤ → Fact → Call
to_trace l g = filling (λ s d. to_trace_due s l g.rel g.vals d) (9 ∷ 20 ∷ in_derivation)

-- convert::to_derivation and ruahmitz_to_derivation
abbrev pub to_derivation : List ℤ → Fact → Call
to_derivation l g = filling (λ s d. to_derivation_due s l g.rel g.vals d) (9 ∷ in_trace)

-- text::print and ruahmitz_text
abbrev pub print : Call
print = filling print_due (9 ∷ [])

-- the numbers of a refused book; n is one of ns
abbrev pub in_book : List ℕ
in_book = 1 ∷ 2 ∷ 3 ∷ 4 ∷ 5 ∷ 6 ∷ 7 ∷ 8 ∷ []

abbrev pub OneOf : List ℕ → ℕ → Type 0
OneOf ns n = T (has ns n)
