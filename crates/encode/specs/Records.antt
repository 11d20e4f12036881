-- A clause record on what stands: reading gets its parts, and they are the clause's.
use Prim.Native.Nat.{ℕ, suc, ◌+◌, ◌-◌, ◌≤◌, ◌<◌}
use Rattle.std.proofs.Common.{zero-add, sym, ◌∙◌, length-append}
use native.Mathlib.Omega.{arith}
use Rattle.std.specs.Prelude.{◌≡◌, List, [], ◌∷◌, ◌++◌, get_or, Ok}
use Rattle.std.proofs.Math.Path.{refl}
use Rattle.std.proofs.Math.Option.{Option, none, some}
use Rattle.std.proofs.Math.ListN.{length}
use borrow.Author.Tests.{ne_eqb}
use Rattle.meaning.specs.Book.{Atom, Clause}
use Rattle.meaning.specs.Limits.{Each, nodes, AtomLimits, BodyLimits, ClauseLimits}
use Rattle.cursor.specs.declared.Clause as laid
use Rattle.cursor.specs.Steps.{pick, relation_at, variable_at}
use Rattle.cursor.specs.Clause.{arguments_at, fact_at, body_at, parts_at, clause_at}
use Rattle.cursor.specs.Meaning.{atom_in, body_in, tree_of, tree_in, clause_in}
use Rattle.encode.specs.Encode.{atom_bytes, body_bytes, constraint_bytes, clause_bytes}
use Rattle.encode.specs.Stands.{Stands, stands-split, stands-is, stands-get}
use Rattle.encode.specs.Reads.{at, byte-read, below-read, tree-got, constraint-read}
use Rattle.reply.specs.Then.{go_on}

arguments-read : (s : List ℕ) (v p l : ℕ) (xs : List ℕ) → Each (λ (i : ℕ). i < v) xs → Stands s p xs →
    arguments_at (length xs) s v (at p l) ≡ Ok (at (p + length xs) l)
unfolding Stands arguments_at variable_at go_on
arguments-read s v p l [] f h = let e : p + 0 ≡ p = omega arith in rw e
arguments-read s v p l (x ∷ xs) f h =
    let e : p + suc (length xs) ≡ p + 1 + length xs = omega arith in
    rw (below-read s 6 v p l h.0 h.1 f.0, e) (arguments-read s v (p + 1) l xs f.1 h.2)

-- a body's first byte
unfoldable pub body_byte : Option Atom → ℕ
body_byte none = 255
body_byte (some a) = a.rel

-- the arities stand at the front of s
module _ (s arities : List ℕ) (few : length arities ≤ 16) (front : Stands s 0 arities) where
  arity-is : (v : ℕ) (a : Atom) → AtomLimits arities v a → get_or s a.rel 0 ≡ length a.args
  arity-is v a lim = rw zero-add at (stands-get s 0 arities a.rel front lim.there) ∙ sym lim.full

  fact-read : (v p l : ℕ) (a : Atom) → AtomLimits arities v a → Stands s p (atom_bytes a) →
      fact_at s (length arities) v (at p l) ≡ Ok (a.rel, at (p + length (atom_bytes a)) l)
  unfolding Stands atom_bytes fact_at relation_at go_on
  fact-read v p l a lim h =
      let e : p + suc (length a.args) ≡ p + 1 + length a.args = omega arith in
      rw (below-read s 5 (length arities) p l h.0 h.1 lim.there, arity-is v a lim, arguments-read s v (p + 1) l a.args lim.known h.2, e)

  body-read : (v p l : ℕ) (o : Option Atom) → BodyLimits arities v o → Stands s p (body_bytes o) →
      body_at s (length arities) v (at p l) ≡ Ok (body_byte o, at (p + length (body_bytes o)) l)
  unfolding Stands body_bytes body_byte atom_bytes body_at go_on pick
  body-read v p l none lim h = rw (byte-read s p l h.0 h.1)
  body-read v p l (some a) lim h = rw (byte-read s p l h.0 h.1, ne_eqb a.rel 255 (λ e. omega (arith, lim.there))) (fact-read v p l a lim h)

  atom-is : (v p : ℕ) (a : Atom) → AtomLimits arities v a → Stands s p (atom_bytes a) → atom_in s a.rel p ≡ a
  unfolding Stands atom_bytes atom_in
  atom-is v p a lim h = rw (arity-is v a lim, stands-is s (p + 1) a.args h.2)

  body_is : (v p : ℕ) (o : Option Atom) → BodyLimits arities v o → Stands s p (body_bytes o) → body_in s (body_byte o) p ≡ o
  unfolding body_bytes body_byte body_in pick
  body_is v p none lim h = refl
  body_is v p (some a) lim h = rw (ne_eqb a.rel 255 (λ e. omega (arith, lim.there)), atom-is v p a lim h)

-- where the parts of a record at p start
unfoldable pub head_start : ℕ → Clause → ℕ
head_start p c = p + 1 + length (body_bytes c.body)

unfoldable pub rule_start : ℕ → Clause → ℕ
rule_start p c = head_start p c + length (atom_bytes c.head)

unfoldable pub lay_of : ℕ → Clause → laid.Clause
lay_of p c = record {
  variables = c.vars;
  body = body_byte c.body;
  body_at = p + 1;
  head = c.head.rel;
  head_at = head_start p c;
  rule = rule_start p c;
}

-- the parts stand
pub record Parts (s : List ℕ) (p : ℕ) (c : Clause) : Type 0 where
  pub room : p < length s
  pub vars : get_or s p 0 ≡ c.vars
  pub body : Stands s (p + 1) (body_bytes c.body)
  pub head : Stands s (head_start p c) (atom_bytes c.head)
  pub rule : Stands s (rule_start p c) (constraint_bytes c.rule)
  pub end : rule_start p c + length (constraint_bytes c.rule) ≡ p + length (clause_bytes c)

pub parts-stand : (s : List ℕ) (p : ℕ) (c : Clause) → Stands s p (clause_bytes c) → Parts s p c
unfolding Stands clause_bytes head_start rule_start
parts-stand s p c h =
    let a = body_bytes c.body in
    let b = atom_bytes c.head in
    let t = constraint_bytes c.rule in
    let x = stands-split s (p + 1) a (b ++ t) h.2 in
    let y = stands-split s (p + 1 + length a) b t x.1 in
    record {
      room = h.0;
      vars = h.1;
      body = x.0;
      head = y.0;
      rule = y.1;
      end = omega (arith, length-append a (b ++ t), length-append b t);
    }

module _ (s arities : List ℕ) (few : length arities ≤ 16) (front : Stands s 0 arities) (p : ℕ) (c : Clause) (lim : ClauseLimits arities c) (h : Parts s p c) where
  parts-read : (l : ℕ) → parts_at s (length arities) (at p l) ≡ Ok (lay_of p c, at (rule_start p c) l)
  unfolding parts_at variable_at go_on lay_of head_start rule_start
  parts-read l = rw (
    below-read s 6 17 p l h.room h.vars (omega (arith, lim.few)),
    body-read s arities few front c.vars (p + 1) l c.body lim.body h.body,
    fact-read s arities few front c.vars (p + 1 + length (body_bytes c.body)) l c.head lim.head h.head,
  )

  left_is : 64 ≡ nodes c.rule + (64 - nodes c.rule)
  left_is = omega (arith, lim.rule.few)

  pub clause-read : (l : ℕ) → clause_at s (length arities) (at p l) ≡ Ok (lay_of p c, at (p + length (clause_bytes c)) (64 - nodes c.rule))
  unfolding clause_at go_on lay_of
  clause-read l = rw (
    parts-read l,
    constraint-read s c.vars c.rule 16 lim.rule.shallow lim.rule.numbers (rule_start p c) 64 (64 - nodes c.rule) left_is h.rule,
    h.end,
  )

  pub clause-is : clause_in s (lay_of p c) ≡ c
  unfolding clause_in tree_in tree_of lay_of
  clause-is = rw (
    body_is s arities few front c.vars (p + 1) c.body lim.body h.body,
    atom-is s arities few front c.vars (head_start p c) c.head lim.head h.head,
    tree-got s c.vars c.rule 16 lim.rule.shallow lim.rule.numbers (rule_start p c) 64 (64 - nodes c.rule) _ left_is refl h.rule,
  )
