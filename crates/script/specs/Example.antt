-- Document 01's two printed texts.
use Rattle.std.specs.Prelude.{◌≡◌, refl, [], ◌∷◌, pos}
use Rattle.std.proofs.Math.Option.{none}
use Rattle.meaning.specs.Constraint.{truth, equal}
use Rattle.meaning.specs.Book.{Book, Clause}
use Rattle.sexp.specs.Bytes.{bytes}
use Rattle.sexp.specs.Sexp.{◌⧺◌, onto, render, lines_onto, each}
use Rattle.put.specs.Digits.{digits, digits_up_to}
use Rattle.put.specs.Number.{num}
use Rattle.script.specs.Names.{flag_name, place_name, input_name, next, in_state, pair_name}
use Rattle.script.specs.Terms.{limits, same, product, sum, compared, constraint}
use Rattle.script.specs.Lines.{state_lines, relation_lines, input_lines, denied, place_limits, init_line, argument, atom_items, body_items, frame, frame_but, input_limits, clause_part, clause_part_of, trans_line, prop_line}
use Rattle.script.specs.Text.{script, text}

-- the book of 23 bytes: one relation without places, one clause that is always true
abbrev pub least : Book
least = record {
  arities = 0 ∷ [];
  clauses = record { vars = 0; body = none; head = record { rel = 0; args = [] }; rule = truth } ∷ [];
  lo = pos 0;
  hi = pos 0;
  query = 0;
}

pub least-text : text least ≡ bytes "(declare-fun l0 () Bool)\n(declare-fun l0n () Bool)\n(define-fun sl0 () Bool (! l0 :next l0n))\n(define-fun init () Bool (! (and true (not l0)) :init true))\n(define-fun trans () Bool (! (or false false (and true true l0n)) :trans true))\n(define-fun prop () Bool (! (not l0) :invar-property 0))\n"
unfolding text script onto lines_onto ◌⧺◌ each digits digits_up_to flag_name next in_state pair_name state_lines relation_lines input_lines denied place_limits init_line atom_items body_items frame frame_but clause_part clause_part_of trans_line prop_line constraint
least-text = refl

-- clause 0 of book B: variable 0 is 0, and the head is relation 0 at it
abbrev pub first : Clause
first = record {
  vars = 1;
  body = none;
  head = record { rel = 0; args = 0 ∷ [] };
  rule = equal (record { coefficients = pos 1 ∷ []; constant = pos 0 });
}

pub first_part : render (clause_part (λ _. record { lo = pos 0; hi = pos 3 }) (1 ∷ 0 ∷ []) 0 first)
    ≡ bytes "(and true (<= 0 y0_0) (<= y0_0 3) (= (+ 0 0 (* 1 y0_0)) 0) l0n (= p0_0n y0_0) (= l1n l1))"
unfolding onto ◌⧺◌ each digits digits_up_to num flag_name place_name input_name next in_state limits same product sum compared constraint argument atom_items body_items frame frame_but input_limits clause_part
first_part = refl
