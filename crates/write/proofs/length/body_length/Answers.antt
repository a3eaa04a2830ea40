-- `body_length` meets its contract, form by form.
use mathlib.Core.Path.{subst}
use native.Mathlib.Omega.{arith}
use Rattle.smf.proofs.Number.{encode_most}
use Rattle.write.specs.Raw.{raw_length, Short}
use Rattle.write.proofs.length.body_length.Goals as goal

pub load_length-requires : goal.load_length-requires
unfolding Short
load_length-requires c = subst Short c.in-System.is c.requires

pub overflow_add-result : goal.overflow_add-result
unfolding Short
overflow_add-result c = omega (arith, c.load_length.ensures, subst Short c.in-System.is c.requires, encode_most c.in-System.load.length)

pub load_length-requires-in-Typed : goal.load_length-requires-in-Typed
unfolding Short
load_length-requires-in-Typed c = subst Short c.in-Typed.is c.requires

pub overflow_add-result-in-Typed : goal.overflow_add-result-in-Typed
unfolding Short
overflow_add-result-in-Typed c = omega (arith, c.load_length-in-Typed.ensures, subst Short c.in-Typed.is c.requires, encode_most c.in-Typed.load.length)

pub load_length-requires-in-Fixed : goal.load_length-requires-in-Fixed
unfolding Short
load_length-requires-in-Fixed c = subst Short c.in-Fixed.is c.requires

pub overflow_add-result-in-Fixed : goal.overflow_add-result-in-Fixed
unfolding Short
overflow_add-result-in-Fixed c = omega (arith, c.load_length-in-Fixed.ensures, subst Short c.in-Fixed.is c.requires, encode_most c.in-Fixed.own.n)

pub returns-in-Channel : goal.returns-in-Channel
unfolding raw_length
returns-in-Channel c = rw (c.in-Channel.is, c.channel_length.ensures)

pub returns-in-System : goal.returns-in-System
unfolding raw_length
returns-in-System c = rw (c.in-System.is, c.load_length.ensures)

pub returns-in-Typed : goal.returns-in-Typed
unfolding raw_length
returns-in-Typed c = rw (c.in-Typed.is, c.load_length-in-Typed.ensures)

pub returns-in-Fixed : goal.returns-in-Fixed
unfolding raw_length
returns-in-Fixed c = rw (c.in-Fixed.is, c.load_length-in-Fixed.ensures)
