-- The entries that refuse.
use mathlib.Core.Path.{refl}
use Rattle.record.specs.declared.Window.TheVariants.{Off, D, N}
use Rattle.rules.specs.Changes.{OffRefuses}

pub off_refuses : OffRefuses
off_refuses Off = (refl, refl)
off_refuses D = (refl, refl)
off_refuses N = (refl, refl)
