-- `kind` meets its contract, kind by kind.
use mathlib.Core.Path.{sym, ◌∙◌}
use Rattle.write.proofs.Forms.{sys_ex_made, escape_made}
use Rattle.write.proofs.event_door.kind.Goals as goal

pub returns-in-Midi : goal.returns-in-Midi
returns-in-Midi c = rw c.in-Midi.is (c.message.ensures _ _)

pub returns-in-SysEx : goal.returns-in-SysEx
returns-in-SysEx c = rw c.in-SysEx.is (c.system.ensures ∙ sym (sys_ex_made _ _ _))

pub returns-in-Escape : goal.returns-in-Escape
returns-in-Escape c = rw c.in-Escape.is (c.system-in-Escape.ensures ∙ sym (escape_made _ _ _))

pub returns-in-Meta : goal.returns-in-Meta
returns-in-Meta c = rw c.in-Meta.is c.meta.ensures
