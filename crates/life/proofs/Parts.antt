-- A tag has its worker and its serial in it.
use Rattle.life.proofs.TagTexts.{worker_of_tag, serial_of_tag}
use Rattle.life.specs.TagLaws.{ApartLaw}

pub apart_law : ApartLaw
apart_law a b s t small below few less e =
    let worker = worker_of_tag a b s t small below e in
    (worker.0, serial_of_tag a b s t few less worker.1)
