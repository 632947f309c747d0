-- Why desks don't go on, where something of them isn't kept.
use Rattle.journal.specs.declared.writing.Unwritten.TheVariants.{TooLong, Unsound, NoMemory as NoRoom}
use Rattle.keeper.specs.declared.error.Unkept.{Unkept}
use Rattle.keeper.specs.declared.error.Unkept.TheVariants.{Unwritten, NoMemory, NoSuchWorker, NotBegun, Outdated, Spent}
use Rattle.resumption.specs.declared.desks.Halt.{Halt}
use Rattle.resumption.specs.declared.desks.Halt.TheVariants as halt

-- want of memory says nothing of what was read, and anything else that it isn't of such desks
abbrev pub halted : Unkept → Halt
halted (Unwritten TooLong) = halt.Unfit
halted (Unwritten Unsound) = halt.Unfit
halted (Unwritten NoRoom) = halt.NoMemory
halted NoMemory = halt.NoMemory
halted NoSuchWorker = halt.Unfit
halted NotBegun = halt.Unfit
halted Outdated = halt.Unfit
halted Spent = halt.Unfit
