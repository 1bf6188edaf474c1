-- Rules that prove nothing new: an equality may be rewritten by them on both sides. Assumes nothing.
-- Read first: proofs/Converge.
use mathlib.Core.Path.{sym}
use Rattle.terms.specs.Term.{Term, var}
use Rattle.terms.proofs.Subst.{subst_var}
use Rattle.rewriting.proofs.Relations.{Star, Conv, same, ahead, Rules, Step, root}
use Rattle.rewriting.proofs.Abstract.{chain, turn, star_conv}
use Rattle.rewriting.proofs.Converge.{conv_conv}

-- `R` proves nothing that `E` does not.
abbrev pub Sound : Rules → Rules → Type 0
Sound E R = (l r : Term) → R l r → Conv (Step E) l r

pub sound_itself : (E : Rules) → Sound E E
sound_itself E l r e = ahead (root e var (sym (subst_var l)) (sym (subst_var r))) same

-- Simplify: both sides of an equality may be rewritten by sound rules.
pub simplify : (E R : Rules) → Sound E R → {t t' u u' : Term} → Conv (Step E) t u → Star (Step R) t t' → Star (Step R) u u' → Conv (Step E) t' u'
simplify E R h c s q = chain (turn (conv_conv h (star_conv s))) (chain c (conv_conv h (star_conv q)))
