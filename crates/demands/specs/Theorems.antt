-- The demands hold: demand-1, demand-1-in-c, demand-2 and demand-3. Their proofs are cited from the crates that the calls stand in.
use Rattle.std.specs.Prelude.{ℕ, ◌<◌, ◌≡◌, refl, ◌↔◌, ◌⊎◌, false, length, take, ℤ, Ok}
use Rattle.std.proofs.Math.Path.{sym, ap}
use Rattle.std.proofs.Common.{subst, ◌∙◌, ⊎_elim}
use mathlib.Core.List.{List, [], ◌∷◌}
use Rattle.std.proofs.lemmas.List.{length-replicate}
use Rattle.reply.specs.Answer.{ok, refused, says, says-told, told}
use Rattle.reply.specs.Among.{has, has-behind, among-ok, refused-not}
use Rattle.reply.specs.Room.{written}
use Rattle.reply.proofs.Room.{written-fair}
use Rattle.meaning.specs.Book.{Book, Fact, place_window, query}
use Rattle.meaning.specs.Limits.{Limits}
use Rattle.meaning.specs.System.{Move, Follows}
use Rattle.meaning.specs.State.{State, flags, Flagged, first, Initial}
use Rattle.meaning.specs.Laws.{laws, flags-laws}
use Rattle.meaning.specs.Rows.{shaped-length}
use Rattle.meaning.specs.Conversions.{moves-length}
use Rattle.meaning.specs.Main as main
use Rattle.meaning.specs.Stated as stated
use Rattle.meaning.specs.Stated.{StepsAlong}
use Rattle.book.specs.declared.Header.{Header}
use Rattle.book.specs.Joined as joined
use Rattle.book.specs.Answer as books
use Rattle.book.specs.Read.{read, constraint_of, Reading}
use Rattle.book.specs.Lent.{Lent, handed, handed-bytes}
use Rattle.book.specs.OnBook.{on_book, refused_by, reading, on-refused, on-accepted, on_both, reading-says}
use Rattle.book.specs.Span.{span_of}
use Rattle.book.specs.Accepted as accepted
use Rattle.encode.specs.Stands.{Bytes}
use Rattle.encode.specs.Small.{encode-bytes}
use Rattle.encode.specs.Part.{part-written, constraint-some}
use Rattle.encode.specs.Placed.{part_placed}
use Rattle.encode.specs.Exact as exact
use Rattle.lists.specs.Derivation.{check_derivation}
use Rattle.lists.specs.Trace.{check_trace}
use Rattle.lists.specs.Convert.{as_trace, as_derivation, to_trace, to_derivation}
use Rattle.lists.specs.Among.{in_derivation, in_trace, among-derivation, among-trace}
use Rattle.lists.specs.Replies.{limited, among-limited, to_trace-fair, to_derivation-fair}
use Rattle.lists.specs.Exact.{check_derivation-exact}
use Rattle.lists.specs.Walk.{check_trace-exact}
use Rattle.derivation.specs.Answer as derivation
use Rattle.derivation.specs.Exact as derivations
use Rattle.trace.specs.Answer as trace
use Rattle.trace.specs.Exact as traces
use Rattle.models.specs.Answer.{Reply, number_of, plain, examine, model_answer}
use Rattle.models.specs.Exact.{model_numbers}
use Rattle.models.proofs.Exact.{among-examine}
use Rattle.models.proofs.Main as models
use Rattle.models.proofs.Due as dues
use Rattle.model.specs.declared.Reply as code
use Rattle.model.specs.Reply as replies
use Rattle.model.specs.Exact as model
use Rattle.convert.specs.Calls as converted
use Rattle.script.specs.Plain.{parse-text}
use Rattle.script.specs.Text.{text}
use Rattle.text.specs.Calls as printed
use Rattle.kit.specs.Promises as kit
use Rattle.kit.specs.Part.{part-handed, place-handed}
use Rattle.demands.specs.Demands.{Replies, RepliesInC, InC, Demand1, Demand2, Demand3}
use Rattle.demands.specs.Demands.Words as words
use Rattle.demands.specs.Demands.Words.{Holds, ReadBook, IsDerivation, IsTrace, OneOf}
use Rattle.demands.specs.Shared.{roomless, roomless-in-c, tells-pair, pair-tells, answering-replies, answering-in-c, filling-replies, filling-in-c, written-numbers}

-- ---- what the citations need

-- what is handed out of a book s that is lent as m
bytes-handed : {s : List ℕ} (m : Lent) {x : Lent} (k : ℕ) → m.bytes ≡ s → x ≡ handed m k → x.bytes ≡ constraint_of s k
bytes-handed m k e h = ap (λ (y : Lent). y.bytes) h ∙ handed-bytes m k ∙ ap (λ (t : List ℕ). constraint_of t k) e

-- a check that accepts is one that says ok
module _ (s : List ℕ) (l : List ℤ) (g : Fact) where
  derivation-ok : (derivation.answer s l g.rel g.vals ≡ ok) ↔ IsDerivation s l g
  unfolding says
  derivation-ok = (λ e. record { tells = sym e }, λ h. sym h.tells)

  trace-ok : (trace.answer s l g.rel g.vals ≡ ok) ↔ IsTrace s l g
  unfolding says
  trace-ok = (λ e. record { tells = sym e }, λ h. sym h.tells)

  module _ (b : Book) (held : Holds s b) where
    derivation-checked : (check_derivation b g.rel g.vals l ≡ ok) ↔ IsDerivation s l g
    unfolding derivation.answer
    derivation-checked = let e = on-accepted s refused (λ c. check_derivation c g.rel g.vals l) b held in (λ k. derivation-ok.0 (e ∙ k), λ h. sym e ∙ derivation-ok.1 h)

    trace-checked : (check_trace b flags g.rel g.vals l ≡ ok) ↔ IsTrace s l g
    unfolding trace.answer
    trace-checked = let e = on-accepted s refused (λ c. check_trace c flags g.rel g.vals l) b held in (λ k. trace-ok.0 (e ∙ k), λ h. sym e ∙ trace-ok.1 h)

-- bytes hold one book
the-book : (s : List ℕ) (b c : Book) → Holds s b → Holds s c → c ≡ b
the-book s b c p q = cc

-- a book is read exactly when the bytes hold one
read_held : (s : List ℕ) (x : Reading) → ReadBook s x → ((h : Header) × (x ≡ Ok h)) ↔ ((b : Book) × Holds s b)
unfolding books.answer books.told
read_held s x w = (
  λ a. (_, ap (books.told s) (sym w.is ∙ a.1)),
  λ a. let h = accepted.headed s a.0 a.1 in (h.header, w.is ∙ h.good),
)

-- an initial state has a flag and a row for each relation
steps-stated : {b : Book} → Limits b → (σ : State flags) → Initial b flags σ → (ms : List (Move b (Flagged b))) → StepsAlong b σ ms ↔ Follows b (Flagged b) σ ms
steps-stated {b} L σ i ms =
    stated.trace-is-stated L σ (rw i.started (length-replicate (length b.arities) false)) (shaped-length (place_window b) b.arities σ.rows i.shaped) ms

-- ---- Demand 1: of any list of numbers

-- the refusals of the two conversions and of the printer
to-trace-numbers : (l : List ℤ) (g : Fact) (d : List ℤ) (b : Book) (n p : ℕ) → (to_trace b flags g.rel g.vals l d).answer ≡ refused n p → OneOf (9 ∷ 20 ∷ in_derivation) n
unfolding to_trace has
to-trace-numbers l g d b n p e =
    ⊎_elim (λ k. later n ((among-limited b flags g.rel g.vals l d).among k)) (λ z. rw z tt)
    (written-numbers (limited b flags g.rel g.vals l d) (as_trace b flags l) d e)
  where
    later : (n : ℕ) → OneOf (20 ∷ in_derivation) n → OneOf (9 ∷ 20 ∷ in_derivation) n
    later n h = has-behind (9 ∷ []) (20 ∷ in_derivation) n h

to-derivation-numbers : (l : List ℤ) (g : Fact) (d : List ℤ) (b : Book) (n p : ℕ) → (to_derivation b flags g.rel g.vals l d).answer ≡ refused n p → OneOf (9 ∷ in_trace) n
unfolding to_derivation has
to-derivation-numbers l g d b n p e =
    ⊎_elim (λ k. has-behind (9 ∷ []) in_trace n ((among-trace b flags g.rel g.vals l).among k)) (λ z. rw z tt)
    (written-numbers (check_trace b flags g.rel g.vals l) (as_derivation b flags g.rel l) d e)

print-numbers : (d : List ℕ) (b : Book) (n p : ℕ) → (written ok (text b) d).answer ≡ refused n p → OneOf (9 ∷ []) n
unfolding has
print-numbers d b n p e = ⊎_elim (λ k. absurd (refused-not (sym k))) (λ z. rw z tt) (written-numbers ok (text b) d e)

-- the reader's and the model check's replies, which are no plain answers
module _ (s : List ℕ) where
  read_keeps : ReadBook s (read s)
  read_keeps = record { is = refl; tells = (books.answers s (read s) refl).tells }

  reading-replies : Replies words.read_book s
  unfolding has
  reading-replies =
      roomless ReadBook (λ x. says (refused_by x)) [] _ _ s (λ b. ok) (λ h. h) (λ b. among-ok) (read s) read_keeps
      (λ y z p q. p.is ∙ sym q.is) (λ y w. reading-says s w)

  reading-in-c : RepliesInC words.read_book s
  reading-in-c =
      roomless-in-c ReadBook (λ x. says (refused_by x)) [] _ _ s (read s) read_keeps
      (rw (reading-says s read_keeps) (pair-tells (reading s))) (λ o y u w. tells-pair (refused_by y) u (reading-says s w))

  module _ (m : List ℕ) where
    abbrev reply : code.Reply
    reply = let y = model_answer s m in record { answer = told y.answer; count = y.count; clause = y.clause; values = y.values }

    reply-keeps : replies.Replies s m reply
    reply-keeps = record { tells = λ j. record { answer = says-told (model_answer s m).answer j; count = (model_answer s m).count; clause = (model_answer s m).clause; values = (model_answer s m).values } }

    answered : (model_answer s m).answer ≡ on_book s refused (λ b. (examine b m).answer)
    unfolding model_answer
    answered = on_both s (λ n p. plain (refused n p) 0) (λ b. examine b m) (λ y. y.answer ≡ on_book s refused (λ b. (examine b m).answer))
        (λ n p q. sym (on-refused s refused (λ b. (examine b m).answer) n p q)) (λ b q. sym (on-accepted s refused (λ c. (examine c m).answer) b q))

    model-replies : Replies (words.check_model m) s
    unfolding has
    model-replies =
        roomless (λ s x. replies.Replies s m x) (λ x. (replies.told x).answer) model_numbers _ _ s (λ b. (examine b m).answer) (λ h. h) (λ b. among-examine b m) reply reply-keeps
        (λ y z. replies.only) (λ y w. ap (λ (a : Reply). a.answer) w.tells ∙ answered)

    model-in-c : RepliesInC (words.check_model m) s
    model-in-c =
        roomless-in-c (λ s x. replies.Replies s m x) (λ x. (replies.told x).answer) model_numbers _ _ s reply reply-keeps
        (record { told = rw (ap (λ (a : Reply). a.answer) reply-keeps.tells) (pair-tells (model_answer s m).answer); count = refl; clause = refl; values = refl })
        (λ o y u w. let e = sym w.tells in
        λ j. (
          tells-pair y.answer u.told (ap (λ (a : Reply). a.answer) w.tells) j,
          ((u.count ∙ ap (λ (a : Reply). a.count) e) j, (u.clause ∙ ap (λ (a : Reply). a.clause) e) j, (u.values ∙ ap (λ (a : Reply). a.values) e) j),
        ))

pub demand-1 : (s : List ℕ) → Demand1 s
unfolding derivation.answer trace.answer has
demand-1 s = record {
  reading = reading-replies s;
  derivation = λ l g. answering-replies (λ b. check_derivation b g.rel g.vals l) in_derivation s (λ h. h) (λ b. among-derivation b g.rel g.vals l);
  trace = λ l g. answering-replies (λ b. check_trace b flags g.rel g.vals l) in_trace s (λ h. h) (λ b. among-trace b flags g.rel g.vals l);
  model = model-replies s;
  to-trace = λ l g. filling-replies (λ d b. to_trace b flags g.rel g.vals l d) (9 ∷ 20 ∷ in_derivation) s (λ h. h) (λ d b. to_trace-fair b flags g.rel g.vals l d) (to-trace-numbers l g);
  to-derivation = λ l g. filling-replies (λ d b. to_derivation b flags g.rel g.vals l d) (9 ∷ in_trace) s (λ h. h) (λ d b. to_derivation-fair b flags g.rel g.vals l d) (to-derivation-numbers l g);
  printing = filling-replies (λ d b. written ok (text b) d) (9 ∷ []) s (λ h. h) (λ d b. written-fair ok (text b) d) print-numbers;
  some-part = λ m k e. (handed m k, refl);
  one-part = λ m x y k e h j. h ∙ sym j;
  part-refused = λ n p q m x k e h. bytes-handed m k e h ∙ accepted.part-refused s n p q k;
  part-absent = λ b held m x k e h far. bytes-handed m k e h ∙ accepted.part-absent s b held k far;
  part-present = λ bytes b held m x k e h below. rw (bytes-handed m k e h ∙ part-written s bytes b held k below) (constraint-some _);
  one-record = joined.one-record s;
}

pub demand-1-in-c : (s : List ℕ) → InC s
unfolding derivation.answer trace.answer
demand-1-in-c s = record {
  book = reading-in-c s;
  derivation = λ l g. answering-in-c (λ b. check_derivation b g.rel g.vals l) in_derivation s;
  trace = λ l g. answering-in-c (λ b. check_trace b flags g.rel g.vals l) in_trace s;
  model = model-in-c s;
  to-trace = λ l g. filling-in-c (λ d b. to_trace b flags g.rel g.vals l d) (9 ∷ 20 ∷ in_derivation) s;
  to-derivation = λ l g. filling-in-c (λ d b. to_derivation b flags g.rel g.vals l d) (9 ∷ in_trace) s;
  text = filling-in-c (λ d b. written ok (text b) d) (9 ∷ []) s;
  some-constraint = λ k. (length (constraint_of s k), (span_of s k).start, record { long = refl; start = refl });
  one-constraint = λ k r q r' q'. kit.one-handed;
  same-constraint = λ k r q m x e u h. (part-handed u ∙ sym (bytes-handed m k e h), sym (ap (λ (y : Lent). y.at) h ∙ place-handed u m e));
}

-- ---- Demand 2: of all bytes

told-plain : (s m : List ℕ) (x : code.Reply) → replies.Replies s m x → dues.Plain (replies.told x)
told-plain s m x h = subst dues.Plain (sym h.tells) (dues.model-plain s m)

pub demand-2 : (s : List ℕ) → Bytes s → Demand2 s
demand-2 s bytes =
    let query-there : (b : Book) → Holds s b → b.query < length b.arities = λ b held. (exact.accepted-is-written s bytes b held).1.query in record {
      read-exactly = λ x w. (
        λ a. let (b, held) = (read_held s x w).0 a in let (e, l, k) = (exact.accepts-exactly s bytes b).0 held in (b, e, l, k),
        λ a. (read_held s x w).1 (a.0, (exact.accepts-exactly s bytes a.0).1 (a.1, a.2, a.3)),
      );
      accepts-exactly = exact.accepts-exactly s bytes;
      one-writing = λ t y b p q. sym ((exact.accepts-exactly s bytes b).0 p).0 ∙ ((exact.accepts-exactly t y b).0 q).0;
      writing-is-bytes = encode-bytes;
      part-is-constraint = λ b held m x k e h below. part_placed m (rw e bytes) b (rw e held) k below x h;
      derivation-exact = λ l g x h.
          let e = derivations.exact s l g.rel g.vals x h in (
            λ a. let w = e.0 a in let d = w.derivation in (w.book, w.held, d.asked, d.steps, d.listed, d.derives),
            λ a. e.1 (record { book = a.0; held = a.1; derivation = record { asked = a.2; steps = a.3; listed = a.4; derives = a.5 } }),
          );
      trace-exact = λ l g x h.
          let e = traces.exact s bytes l g.rel g.vals x h in (
            λ a. let w = e.0 a in let t = w.trace in (w.book, w.held, t.asked, t.first, t.moves, t.listed, t.reaches),
            λ a. e.1 (record { book = a.0; held = a.1; trace = record { asked = a.2; first = a.3; moves = a.4; listed = a.5; reaches = a.6 } }),
          );
      steps-stated = λ b held σ i ms. let e = steps-stated (exact.accepted-is-written s bytes b held).1 σ i ms in (e.1, e.0);
      bodiless-anywhere = λ b held. stated.bodiless-anywhere (exact.accepted-is-written s bytes b held).1;
      body_kept = λ b t σ σ' f. stated.body_kept;
      model-exact = λ m y x h.
          let e = model.exact s m x h y in (
            λ z. let w = e.0 z in let a = w.2 in (w.0, w.1, a.model, (a.fit, a.written), a.is, a.few),
            λ w. e.1 (w.0, w.1, record { model = w.2; fit = w.3.0; written = w.3.1; is = w.4; few = w.5 }),
          );
      all-counted = λ m x h. model.all-counted s m x h;
      clause-count = models.clause-count;
      first-broken = λ m y x h b held e. let (ts, t, f, w, k, r) = model.first-named s m x h b held y e in (ts, t, (f, w), k, r);
      model-unread = λ m y x h b held none. subst (λ (z : Reply). (number_of z ≡ 21) ⊎ (number_of z ≡ 22)) (sym (model.examined s m x h b held)) (dues.unread b m y (λ w. none (w.0, (w.1, w.2))));
      model-query = λ m x h b held ts w q. model.examined s m x h b held ∙ ap (examine b) w.1 ∙ dues.true-query b (query-there b held) ts w.0 q;
      model-many = λ m x h b held ts w q k. model.examined s m x h b held ∙ ap (examine b) w.1 ∙ dues.too_many b (query-there b held) ts w.0 q k;
      model-broken = λ m x h b held ts w q k t z.
          ap number_of (model.examined s m x h b held ∙ ap (examine b) w.1) ∙ dues.some-broken b (query-there b held) ts w.0 q k t z;
      model-zeros = λ m x h. (told-plain s m x h).zeros;
      model-unexamined = λ m x h. (told-plain s m x h).uncounted;
      text-written = λ b held d e x h. printed.text-written s d x e h b held;
      text-short = λ b held d e x h l. (printed.text-short s d x e h b held l).0;
      text-parses = parse-text;
    }

-- ---- Demand 3: of all bytes that hold a book

pub demand-3 : (s : List ℕ) → Bytes s → (b : Book) → Holds s b → Demand3 s b
demand-3 s bytes b held =
    let L = (exact.accepted-is-written s bytes b held).1 in
    let same : (c : Book) → Holds s c → c ≡ b = λ c q. the-book s b c held q in record {
      derivable-iff-reached = main.flags-derivable-iff-reached L;
      derivable-iff-reached-from = λ σ. main.derivable-iff-reached-from L (Flagged b) (laws b flags flags-laws);
      derivation-to-trace = λ d f h. (main.flags-derivation-to-trace L h, moves-length b (Flagged b) (first b flags) d);
      trace-to-derivation = λ σ ms f. main.flags-trace-to-derivation L;
      over-and-back = λ d f. main.over-and-back (Flagged b) (first b flags);
      to-trace-exact = λ l d e g x h.
          let w = converted.to-trace-exact s bytes g.rel g.vals l d x e h in
          let k = derivation-checked s l g b held in (
            λ n. let a = w.0 n in let q = same a.0 a.1 in (k.0 (rw q at a.2), rw q at a.3, rw q at a.4),
            λ a. w.1 (b, held, k.1 a.0, a.1, a.2),
          );
      to-trace-accepted = λ l d e g n h.
          let t = converted.to-trace-accepted s bytes g.rel g.vals l d n e h in
          let q = same t.book t.held in
          (rw q at t.list, (trace-ok s (take n e) g).0 t.accepted, rw q at t.steps);
      to-derivation-exact = λ l d e g x h.
          let w = converted.to-derivation-exact s bytes g.rel g.vals l d x e h in
          let k = trace-checked s l g b held in (
            λ n. let a = w.0 n in let q = same a.0 a.1 in (k.0 (rw q at a.2), rw q at a.3),
            λ a. w.1 (b, held, k.1 a.0, a.1),
          );
      to-derivation-accepted = λ l d e g n h.
          let t = converted.to-derivation-accepted s bytes g.rel g.vals l d n e h in
          let q = same t.book t.held in
          (rw q at t.list, (derivation-ok s (take n e) g).0 t.accepted, rw q at t.steps);
      there_and_back = λ l d e g n h d' e' x room. converted.back-again s bytes g.rel g.vals l d n e h d' room x e';
      either_way = λ g.
          let w = converted.either_way s bytes g.rel g.vals b held in (
            λ a. let (l, p, m) = w.0 (a.0, (trace-ok s a.0 g).1 a.1) in (l, (derivation-ok s l g).0 p, m),
            λ a. let (l, p) = w.1 (a.0, (derivation-ok s a.0 g).1 a.1, a.2) in (l, (trace-ok s l g).0 p),
          );
      model-excludes = λ ts m. (main.model-derivation m, main.flags-model-trace L m);
      reply-excludes = λ m x h z.
          let e : number_of (examine b m) ≡ 0 = sym (ap number_of (model.examined s m x h b held)) ∙ z in
          let none-derives = models.accepted-derivation b m e in
          let none-reaches = models.accepted-trace b m L e in (
            none-derives,
            none-reaches,
            λ l. (
              λ a. let d = (check_derivation-exact b b.query [] l).0 ((derivation-checked s l (query b) b held).1 a) in none-derives (d.steps, d.derives),
              λ a. let t = (check_trace-exact b flags flags-laws L b.query [] l).0 ((trace-checked s l (query b) b held).1 a) in none-reaches (t.first, t.moves, t.reaches),
            ),
          );
    }
