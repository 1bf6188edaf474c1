-- A term that comes to no normal form: with which end it stops. Assumes nothing.
-- Read first: specs/Settled (FormStops).
use mathlib.Core.Path.{◌≡◌, refl, sym, ap, ◌∙◌}
use Rattle.rewriting.specs.Rewrite.{End, complete, neither_above, spent, too_large, rules_full, log_full}
use Rattle.rewriting.specs.Ends.{ending}
use Rattle.std.specs.Prelude.{Err}
use Rattle.normaliser.specs.Settled.{end_of, FormStops}
use Rattle.normaliser.specs.declared.Stop.{Stop}
use Rattle.normaliser.specs.declared.Stop.TheVariants.{Spent as NoUnit, TooLarge as NoRoom}

-- the two ways to stop
pub data Stopping (x : End) (s : Stop) : Type 0 where
  no_unit : x ≡ spent → s ≡ NoUnit → Stopping x s
  no_room : x ≡ too_large → s ≡ NoRoom → Stopping x s

pub stopping : (x : End) (s : Stop) → FormStops x (Err s) → Stopping x s
stopping complete s h = absurd h
stopping neither_above s h = absurd h
stopping spent s h = no_unit refl (cc)
stopping too_large s h = no_room refl (cc)
stopping rules_full s h = absurd h
stopping log_full s h = absurd h

pub stopped_end : {x : End} {s : Stop} → Stopping x s → end_of s ≡ ending x
unfolding ending
stopped_end (no_unit e h) = ap end_of h ∙ sym (ap ending e)
stopped_end (no_room e h) = ap end_of h ∙ sym (ap ending e)
