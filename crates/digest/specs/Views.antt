-- What contracts see of parameters, which borrow from the text.
use Rattle.std.specs.Prelude.{List, map}
use Rattle.digest.specs.declared.param.AuthParam.{AuthParam as Borrowed}
use Rattle.digest.specs.Params.{AuthParam}

abbrev pub seen : Borrowed → AuthParam
seen p = record { name = p.name.now; value = p.value.now }

abbrev pub all_seen : List Borrowed → List AuthParam
all_seen ps = map seen ps
