-- Document 01, "What demand 3 says": terms over a problem's symbols. Assumes nothing.
use Rattle.std.specs.Prelude.{◌≡◌, List}
use Rattle.terms.specs.Term.{Term, var, node, Terms, nil, cons, count}
use Rattle.reading.specs.Forms.{Symbol, Has, arity_of}

-- "Term over its symbols: a variable, numbered by any whole number, or such a symbol with as many of these terms as its arity." [14.4]
unfoldable mutual
  pub Over : List Symbol → Term → Type 0
  Over Σ (var x) = Unit {0}
  Over Σ (node f ts) = Has Σ f × (count ts ≡ arity_of Σ f) × OverAll Σ ts

  pub OverAll : List Symbol → Terms → Type 0
  OverAll Σ nil = Unit {0}
  OverAll Σ (cons t ts) = Over Σ t × OverAll Σ ts
