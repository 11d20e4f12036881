-- The demands on the kit, in document 01's words. Read this file first: records of statements, a sentence before each.
-- `Theorems` beside it proves them: demand-1 and demand-1-in-c for every list of numbers s, demand-2 for all bytes s, demand-3 for all bytes s that
-- hold a book b.
-- The words and the calls' names are in `Words`, and lead to what they mean; `Table` has document 01's cases; docs/READING.md explains the symbols.
-- `Bytes s`: every number of s is below 256, as in whatever a program lends as bytes.
use Rattle.std.specs.Prelude.{ℕ, ◌+◌, ◌<◌, ◌≤◌, ◌^◌, ◌≡◌, ◌↔◌, ◌⊎◌, true, false, List, [], ◌∷◌, ◌++◌, length, get_or, take, drop, ℤ}
use Rattle.std.proofs.Math.Option.{none, some}
use Rattle.cursor.specs.declared.Clause as clauses
pub mod Words
use Words.*

-- ==== Demand 1: every book, list and model, of any content, gets an answer by number

-- What holds of every call, on any list of numbers s lent as a book; no contract of a call asks anything of the caller. First, of a reply x and a room e
-- that keep its promise, where the room was d:
pub record ByNumber (c : Call) (s : List ℕ) (d e : List c.Item) (x : c.Reply) : Type 0 where
  -- a refused book ends the call with the book's own refusal
  pub book-refused : (n p : ℕ) → Refuses s n p → c.answer x ≡ refused n p
  -- the number alone tells success: it is 0 there and nowhere else
  pub success : number (c.answer x) ≡ 0 → (n : ℕ) × (c.answer x ≡ done n)
  -- which numbers there are: 0, the book's, and the call's own
  pub which : OneOf (0 ∷ in_book ++ c.numbers) (number (c.answer x))
  -- a refusal leaves the room as it was; success writes its front, and the rest keeps its numbers
  pub refused-room : (n p : ℕ) → c.answer x ≡ refused n p → e ≡ d
  pub done-room : (n : ℕ) → c.answer x ≡ done n → Front n d e

pub record Replies (c : Call) (s : List ℕ) : Type 0 where
  -- some reply and room keep its promise, and no others do
  pub some : (d : List c.Item) → (x : c.Reply) × (e : List c.Item) × c.Keeps s d x e
  pub one : (d e f : List c.Item) (x y : c.Reply) → c.Keeps s d x e → c.Keeps s d y f → (x ≡ y) × (e ≡ f)
  pub by_number : (d e : List c.Item) (x : c.Reply) → c.Keeps s d x e → ByNumber c s d e x

pub record Demand1 (s : List ℕ) : Type 0 where
  pub reading : Replies read_book s
  pub derivation : (l : List ℤ) (g : Fact) → Replies (check_derivation l g) s
  pub trace : (l : List ℤ) (g : Fact) → Replies (check_trace l g) s
  pub model : (m : List ℕ) → Replies (check_model m) s
  pub to-trace : (l : List ℤ) (g : Fact) → Replies (to_trace l g) s
  pub to-derivation : (l : List ℤ) (g : Fact) → Replies (to_derivation l g) s
  pub printing : Replies print s
  -- ---- Parts ----------------------------------------------------------------------------------------------
  -- `book::constraint_of` hands out a part of the book: one part, empty for a refused book or an absent clause, and not empty for one that is there
  -- (m is the lent book: its bytes s, and where they stand)
  pub some-part : (m : Lent) (k : ℕ) → m.bytes ≡ s → (x : Lent) × ConstraintOf m k x
  pub one-part : (m x y : Lent) (k : ℕ) → m.bytes ≡ s → ConstraintOf m k x → ConstraintOf m k y → x ≡ y
  pub part-refused : (n p : ℕ) → Refuses s n p → (m x : Lent) (k : ℕ) → m.bytes ≡ s → ConstraintOf m k x → x.bytes ≡ []
  pub part-absent : (b : Book) → Holds s b → (m x : Lent) (k : ℕ) → m.bytes ≡ s → ConstraintOf m k x → length b.clauses ≤ k → x.bytes ≡ []
  pub part-present : Bytes s → (b : Book) → Holds s b → (m x : Lent) (k : ℕ) → m.bytes ≡ s → ConstraintOf m k x → k < length b.clauses → 0 < length x.bytes
  -- `book::record`, by which the other calls read clause k of a book that they have accepted
  pub one-record : (h : Header) (k : ℕ) (x y : clauses.Clause) → Held s h k x → Held s h k y → x ≡ y

-- ==== Demand 1 for C: what each function returns and writes is settled, and is the reply of the call that it stands for

pub record RepliesInC (c : Call) (s : List ℕ) : Type 0 where
  pub some : (d : List c.Item) → (o : c.Out) × (e : List c.Item) × c.KeepsInC s d o e
  pub one : (d e f : List c.Item) (o q : c.Out) → c.KeepsInC s d o e → c.KeepsInC s d q f → (o ≡ q) × (e ≡ f)
  pub same : (d e f : List c.Item) (o : c.Out) (x : c.Reply) → c.KeepsInC s d o f → c.Keeps s d x e → (o ≡ c.in_c x) × (f ≡ e)

pub record InC (s : List ℕ) : Type 0 where
  pub book : RepliesInC read_book s
  pub derivation : (l : List ℤ) (g : Fact) → RepliesInC (check_derivation l g) s
  pub trace : (l : List ℤ) (g : Fact) → RepliesInC (check_trace l g) s
  pub model : (m : List ℕ) → RepliesInC (check_model m) s
  pub to-trace : (l : List ℤ) (g : Fact) → RepliesInC (to_trace l g) s
  pub to-derivation : (l : List ℤ) (g : Fact) → RepliesInC (to_derivation l g) s
  pub text : RepliesInC print s
  -- ruahmitz_constraint: the part of r bytes from byte q on is the one that `book::constraint_of` hands out
  pub some-constraint : (k : ℕ) → (r q : ℕ) × Hands s k r q
  pub one-constraint : (k r q r' q' : ℕ) → Hands s k r q → Hands s k r' q' → (r ≡ r') × (q ≡ q')
  pub same-constraint : (k r q : ℕ) (m x : Lent) → m.bytes ≡ s → Hands s k r q → ConstraintOf m k x → (take r (drop q s) ≡ x.bytes) × (m.at + q ≡ x.at)

-- ==== Demand 2: the calls accept exactly what document 01's meaning of a clause allows, and print that translation

pub record Demand2 (s : List ℕ) : Type 0 where
  -- ---- The book -------------------------------------------------------------------------------------------
  -- it is accepted exactly when it is the writing of a book within the limits, of at most 60,000 bytes
  pub read-exactly : (x : Reading) → ReadBook s x
      → ((h : Header) × (x ≡ Ok h)) ↔ ((b : Book) × (encode b ≡ s) × Limits b × (length s ≤ 60000))
  -- and that is the book that the other calls speak of
  pub accepts-exactly : (b : Book) → Holds s b ↔ ((encode b ≡ s) × Limits b × (length s ≤ 60000))
  -- no two byte strings are one book
  pub one-writing : (t : List ℕ) → Bytes t → (b : Book) → Holds s b → Holds t b → s ≡ t
  -- the writing of every book within the limits is bytes
  pub writing-is-bytes : (b : Book) → Limits b → length (encode b) ≤ 60000 → Bytes (encode b)
  -- the part handed out for clause k is the very part of the lent book where its constraint stands (`Placed`): its bytes are the writing of the
  -- constraint, with the rest of the book's writing around them, and it begins right after what is written before
  pub part-is-constraint : (b : Book) → Holds s b → (m x : Lent) (k : ℕ) → m.bytes ≡ s → ConstraintOf m k x → k < length b.clauses → Placed m b k x
  -- ---- Derivations and traces -----------------------------------------------------------------------------
  -- `Asked`: the goal fits the book, and the list has 1 to 1,000,000 numbers.
  -- accepted exactly when the list is the numbers of a derivation d of the goal in the book that the bytes hold
  pub derivation-exact : (l : List ℤ) (g : Fact) (x : Outcome) → CheckDerivation s l g x
      → (x ≡ Ok 0) ↔ ((b : Book) × Holds s b × Asked b g.rel g.vals l × (d : List Step) × (numbers d ≡ l) × Derives b d g)
  -- accepted exactly when the list is the numbers of a trace, its first state σ and its moves ms, that reaches the goal there
  pub trace-exact : (l : List ℤ) (g : Fact) (x : Outcome) → CheckTrace s l g x
      → (x ≡ Ok 0) ↔ ((b : Book) × Holds s b × Asked b g.rel g.vals l
      × (σ : State flags) × (ms : List (Move b (Flagged b))) × (trace_numbers b flags σ ms ≡ l) × Reaches b (Flagged b) σ ms g)
  -- each of its steps is document 01's, as a relation of two states (`StepsTo`): an instance whose body is met; afterwards the head's flag is set, its
  -- places are its values, and all else is as before
  pub steps-stated : (b : Book) → Holds s b → (σ : State flags) → Initial b flags σ → (ms : List (Move b (Flagged b)))
      → Follows b (Flagged b) σ ms ↔ StepsAlong b σ ms
  -- a clause without body steps in every state, and a step keeps its body's flag
  pub bodiless-anywhere : (b : Book) → Holds s b → (t : Step) (σ : State flags) → length σ.ctl ≡ length b.arities → length σ.rows ≡ length b.arities
      → Instance b t → body b t ≡ none → (σ' : State flags) × StepsTo b t σ σ'
  pub body_kept : (b : Book) (t : Step) (σ σ' : State flags) (f : Fact) → StepsTo b t σ σ' → body b t ≡ some f → get_or σ'.ctl f.rel false ≡ true
  -- ---- Models ---------------------------------------------------------------------------------------------
  -- accepted exactly when the bytes are the writing of one constraint for each relation, they are a model, and there are at most a million assignments
  pub model-exact : (m : List ℕ) → Bytes m → (x : Reply) → CheckModel s m x
      → (number_of (told x) ≡ 0) ↔ ((b : Book) × Holds s b × (ts : List Constraint) × Spells b ts m × Model b ts × (total b ≤ 1000000))
  -- then the count is that of all assignments: for each clause, (hi − lo + 1) to the power V
  pub all-counted : (m : List ℕ) (x : Reply) → CheckModel s m x → (b : Book) → Holds s b → number_of (told x) ≡ 0 → told x ≡ plain ok (total b)
  pub clause-count : (b : Book) (c : Clause) → count (variable_window b c) c.vars ≡ width (record { lo = b.lo; hi = b.hi }) ^ c.vars
  -- 25 names the first broken instance t, and the count is its position in document 01's order (`broken_at`)
  pub first-broken : (m : List ℕ) → Bytes m → (x : Reply) → CheckModel s m x → (b : Book) → Holds s b → number_of (told x) ≡ 25
      → (ts : List Constraint) × (t : Step) × Spells b ts m × FirstBroken b ts t × (told x ≡ broken_at b t)
  -- the other refusals, in order: 21 or 22 for bytes that are no such writing; then 23 at the first byte of the query's constraint, if that is true; 24;
  -- and 25, if some instance is broken
  pub model-unread : (m : List ℕ) → Bytes m → (x : Reply) → CheckModel s m x → (b : Book) → Holds s b → ¬ ((ts : List Constraint) × Spells b ts m)
      → (number_of (told x) ≡ 21) ⊎ (number_of (told x) ≡ 22)
  pub model-query : (m : List ℕ) (x : Reply) → CheckModel s m x → (b : Book) → Holds s b → (ts : List Constraint) → Spells b ts m → Satisfies ts (query b)
      → told x ≡ plain (refused 23 (length (spell constraint_bytes (take b.query ts)))) 0
  pub model-many : (m : List ℕ) (x : Reply) → CheckModel s m x → (b : Book) → Holds s b → (ts : List Constraint) → Spells b ts m → ¬ Satisfies ts (query b)
      → 1000000 < total b → told x ≡ plain (refused 24 0) 0
  pub model-broken : (m : List ℕ) (x : Reply) → CheckModel s m x → (b : Book) → Holds s b → (ts : List Constraint) → Spells b ts m → ¬ Satisfies ts (query b)
      → total b ≤ 1000000 → (t : Step) → Broken b ts t → number_of (told x) ≡ 25
  -- in any reply but 25 clause and values are 0 (`plain`), and so is the count where nothing was examined; also for a refused book
  pub model-zeros : (m : List ℕ) (x : Reply) → CheckModel s m x → ¬ (number_of (told x) ≡ 25) → told x ≡ plain (told x).answer x.count
  pub model-unexamined : (m : List ℕ) (x : Reply) → CheckModel s m x → ¬ (number_of (told x) ≡ 0) → ¬ (number_of (told x) ≡ 25) → x.count ≡ 0
  -- ---- The text -------------------------------------------------------------------------------------------
  -- a room that holds it gets the text of the book, character for character; for a shorter one the reply is the needed length
  pub text-written : (b : Book) → Holds s b → (d e : List ℕ) (x : Outcome) → Print s d x e → length (text b) ≤ length d
      → (x ≡ Ok (length (text b))) × (e ≡ text b ++ drop (length (text b)) d)
  pub text-short : (b : Book) → Holds s b → (d e : List ℕ) (x : Outcome) → Print s d x e → length d < length (text b) → x ≡ Err (refuse 9 (length (text b)))
  -- a parser that knows nothing of the printer gets its lines back
  pub text-parses : (b : Book) → parse (text b) ≡ some (script b)

-- ==== Demand 3: what is derived is reached, and the other way

pub record Demand3 (s : List ℕ) (b : Book) : Type 0 where
  -- ---- On the meaning: derivations and traces of any length -----------------------------------------------
  -- a fact is derivable exactly when some trace ends with that relation's flag set and those values in its places
  pub derivable-iff-reached : (f : Fact) → Derivable b f ↔ Reachable b (Flagged b) f
  -- from whichever initial state
  pub derivable-iff-reached-from : (σ : State flags) → Initial b flags σ → (f : Fact)
      → Derivable b f ↔ ((ms : List (Move b (Flagged b))) × Reaches b (Flagged b) σ ms f)
  -- a derivation becomes a trace of as many steps, from the state whose flags are 0 and whose places are all lo
  pub derivation-to-trace : (d : List Step) (f : Fact) → Derives b d f
      → Reaches b (Flagged b) (first b flags) (moves b (Flagged b) (first b flags) d) f × (length (moves b (Flagged b) (first b flags) d) ≡ length d)
  -- a trace becomes a derivation of no more steps, by the last writers
  pub trace-to-derivation : (σ : State flags) (ms : List (Move b (Flagged b))) (f : Fact) → Reaches b (Flagged b) σ ms f
      → Derives b (last_writers b f.rel (steps b (Flagged b) ms)) f × (length (last_writers b f.rel (steps b (Flagged b) ms)) ≤ length ms)
  -- over and back is the same derivation
  pub over-and-back : (d : List Step) (f : Fact) → Derives b d f
      → last_writers b f.rel (steps b (Flagged b) (moves b (Flagged b) (first b flags) d)) ≡ d
  -- ---- On the conversions: `as_trace` and `as_derivation` are those two as lists of numbers -----------------
  -- a trace is written exactly when the derivation is accepted, and a million numbers and the room hold the trace
  pub to-trace-exact : (l d e : List ℤ) (g : Fact) (x : Outcome) → ToTrace s l g d x e
      → ((n : ℕ) × (x ≡ Ok n)) ↔ (IsDerivation s l g × (length (as_trace b flags l) ≤ 1000000) × (length (as_trace b flags l) ≤ length d))
  -- it is accepted for the same goal, and has as many steps
  pub to-trace-accepted : (l d e : List ℤ) (g : Fact) (n : ℕ) → ToTrace s l g d (Ok n) e
      → (take n e ≡ as_trace b flags l) × IsTrace s (take n e) g × (length (trace_steps b flags (take n e)) ≡ length (derivation_steps b l))
  -- a derivation is written exactly when the trace is accepted, and the room holds the derivation
  pub to-derivation-exact : (l d e : List ℤ) (g : Fact) (x : Outcome) → ToDerivation s l g d x e
      → ((n : ℕ) × (x ≡ Ok n)) ↔ (IsTrace s l g × (length (as_derivation b flags g.rel l) ≤ length d))
  -- it is accepted for the same goal, and has no more steps
  pub to-derivation-accepted : (l d e : List ℤ) (g : Fact) (n : ℕ) → ToDerivation s l g d (Ok n) e
      → (take n e ≡ as_derivation b flags g.rel l) × IsDerivation s (take n e) g × (length (derivation_steps b (take n e)) ≤ length (trace_steps b flags l))
  -- over and back is the same list, number for number, in every room d' that holds it
  pub there_and_back : (l d e : List ℤ) (g : Fact) (n : ℕ) → ToTrace s l g d (Ok n) e → (d' e' : List ℤ) (x : Outcome) → length l ≤ length d'
      → ToDerivation s (take n e) g d' x e' → (x ≡ Ok (length l)) × (take (length l) e' ≡ l)
  -- some list is accepted as a trace exactly when one is accepted as a derivation whose trace a million numbers hold
  pub either_way : (g : Fact) → ((l : List ℤ) × IsTrace s l g) ↔ ((l : List ℤ) × IsDerivation s l g × (length (as_trace b flags l) ≤ 1000000))
  -- ---- On models ------------------------------------------------------------------------------------------
  -- once there is a model, neither a derivation of the query nor a trace to it exists, of any length
  pub model-excludes : (ts : List Constraint) → Model b ts → (¬ Derivable b (query b)) × (¬ Reachable b (Flagged b) (query b))
  -- and so once the model check has replied 0; no list is accepted for the query then
  pub reply-excludes : (m : List ℕ) (x : Reply) → CheckModel s m x → number_of (told x) ≡ 0
      → (¬ Derivable b (query b)) × (¬ Reachable b (Flagged b) (query b)) × ((l : List ℤ) → (¬ IsDerivation s l (query b)) × (¬ IsTrace s l (query b)))
