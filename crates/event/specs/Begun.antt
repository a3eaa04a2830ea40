-- An event of which the delta was read.
use Rattle.smf.specs.Wire.{Delta}
use Rattle.event.specs.declared.begun.Begun.{Begun}

-- its delta, with the padding
abbrev pub delta_of : Begun → Delta
delta_of b = record { value = b.delta.0; padding = b.padding }
