use Rattle.spec_messages.proofs.ValuesStay.{hole-stays, value-stands, value-stays, value-stays-entry}
use Rattle.spec_messages.proofs.commutation.values_stay.Goals as goal

pub returns : goal.returns
returns c = record {
  hole = λ s h. hole-stays s.policy s.mapping s.ipx s.holes s.before s.clear s.operation s.after s.patched h.place h.index s.block s.allowed h.stands;
  before = λ s f h. (value-stands f.values s.clear f.full h.place h.index f.is h.stands).0;
  operation = λ s f h. (value-stays s.policy s.mapping s.ipx s.holes s.before s.clear s.operation s.after s.patched f.values f.full h.place h.index s.block s.allowed f.is h.stands).1;
  entry = λ s f h. (value-stays-entry s.policy s.mapping s.ipx s.holes s.operations s.before s.clear s.after s.patched f.values f.full h.place h.index s.block s.applied f.is h.stands).1;
}
