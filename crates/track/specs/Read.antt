-- What reading a list answers, in the terms of the definitions.
use Rattle.smf.specs.Lists as smf
use Rattle.track.specs.declared.read.ReadList.{ReadList}
use Rattle.track.specs.Cursor.{stop_of}
use Rattle.track.specs.List.{held_of}

-- what `EventList::read` answers
abbrev pub list_read_of : ReadList → smf.ListHeld
list_read_of r = record { list = held_of r.list; stop = stop_of r.stop; place = r.place; running = r.running.status; padding = r.padding }
