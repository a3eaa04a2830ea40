-- All that is claimed, as one statement.
use Rattle.claims.specs.Worked.{AsWorked}
use Rattle.claims.specs.Shortest.{Shortest, NotLenient}
use Rattle.claims.specs.EveryInput.{EveryInput}
use Rattle.claims.specs.Identical.{Identical}
use Rattle.claims.specs.Entries.{Entries}
use Rattle.claims.specs.LentRunning.{LentRunning}
use Rattle.claims.specs.EntryPoint1.{EntryPoint1}
use Rattle.claims.specs.EntryPoint3.{EntryPoint3}
use Rattle.claims.specs.Point1.{Point1}
use Rattle.claims.specs.Point2.{Point2}
use Rattle.claims.specs.Point3.{Writes, Point3}
use Rattle.claims.specs.Sounding.{Sounding}
use Rattle.claims.specs.Padding.{Padding, EntryPadding}
use Rattle.claims.specs.Bank.{Banks}
use Rattle.claims.specs.SmfForms.{SmfForms}
use Rattle.claims.specs.Literals.{Literals}
use Rattle.claims.specs.OfTypes.{OfTypes}

pub record All : Type 2 where
  -- document 01's worked bytes, P1 to P12
  pub worked : AsWorked
  -- shortness for one event, which holds of strict reading and not of lenient
  pub shortest : Shortest
  pub not_lenient : NotLenient
  -- any two answers that a promise permits are identical
  pub identical : Identical
  pub entries : Entries
  -- every input gets an answer; answers and refusals, of the exported entries too, and of the one that is lent the running status
  pub every_input : EveryInput
  -- the same of the two functions that are written for any type
  pub of_types : OfTypes
  pub point_1 : Point1
  pub entry_point_1 : EntryPoint1
  pub lent_running : LentRunning
  -- reading and writing are the definitions'
  pub point_2 : Point2
  -- the writer of lists, of whatever its promise permits; and of the definition, whatever a list may hold
  pub point_3 : Point3
  pub entry_point_3 : EntryPoint3
  pub writes : Writes
  -- point 2's clauses of SMF: what is in its form is read as it stands, and what is written is in its form
  pub smf_forms : SmfForms
  -- document 01's numbers, orders and forms, as literals
  pub literals : Literals
  -- document 02, Q-1: notes still sounding
  pub sounding : Sounding
  -- document 02, Q-2: padding
  pub padding : Padding
  pub entry_padding : EntryPadding
  -- document 02, Q-3: a bank of programs
  pub banks : Banks
