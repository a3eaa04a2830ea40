-- All claims, proved.
use Rattle.claims.specs.All.{All}
use Rattle.claims.proofs.Worked.{as_worked}
use Rattle.claims.proofs.Shortest.{shortest, not_lenient}
use Rattle.claims.proofs.EveryInput.{every_input}
use Rattle.claims.proofs.Identical.{identical}
use Rattle.claims.proofs.Entries.{entries}
use Rattle.claims.proofs.LentRunning.{lent_running}
use Rattle.claims.proofs.EntryPoint1.{entry_point_1}
use Rattle.claims.proofs.EntryPoint3.{entry_point_3}
use Rattle.claims.proofs.Point1.{point_1}
use Rattle.claims.proofs.Point2.{point_2}
use Rattle.claims.proofs.Point3.{writes}
use Rattle.claims.proofs.Point3Calls.{point_3}
use Rattle.claims.proofs.Sounding.{sounding}
use Rattle.claims.proofs.BankForms.{worked}
use Rattle.claims.proofs.Banks.{of_definitions, of_functions}
use Rattle.claims.proofs.BankEntries.{of_entries}
use Rattle.claims.proofs.Padding.{padding, entry_padding}
use Rattle.claims.proofs.SmfForms.{smf_forms}
use Rattle.claims.proofs.Literals.{literals}
use Rattle.claims.proofs.OfTypes.{of_types}

pub all : All
all =
    record {
      worked = as_worked;
      shortest = shortest;
      not_lenient = not_lenient;
      identical = identical;
      entries = entries;
      every_input = every_input;
      of_types = of_types;
      point_1 = point_1;
      entry_point_1 = entry_point_1;
      lent_running = lent_running;
      point_2 = point_2;
      point_3 = point_3;
      entry_point_3 = entry_point_3;
      writes = writes;
      smf_forms = smf_forms;
      literals = literals;
      sounding = sounding;
      padding = padding;
      entry_padding = entry_padding;
      banks = record { forms = of_definitions; calls = of_functions; entries = of_entries; worked = worked };
    }
