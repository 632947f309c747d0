-- What the code does with a request, as the definition has it.
use Rattle.notifier_model.specs.Book as book
use Rattle.notifier.specs.declared.desk.Verdict.{Verdict}
use Rattle.notifier.specs.declared.desk.Verdict.TheVariants.{Silent, Repeated, Refused, Denied, Renewed, Born}

abbrev pub verdict_of : Verdict → book.Verdict
verdict_of Silent = book.Silent
verdict_of (Repeated bytes) = book.Repeated bytes.now
verdict_of (Refused cause) = book.Refused cause
verdict_of (Denied serial cause) = book.Denied serial cause
verdict_of (Renewed serial) = book.Renewed serial
verdict_of (Born kind) = book.Born kind
