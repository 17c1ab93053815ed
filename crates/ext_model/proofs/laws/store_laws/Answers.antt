use Rattle.ext_model.proofs.Changes.{places_are_told}
use Rattle.ext_model.proofs.Lookups.{nearest_decides, empty_path, met_fault_stands, put_found, fault_met}
use Rattle.ext_model.proofs.Steps.{others_stay, seals_stay, seal_passes_fault, claims_stay, abandon_undoes_claim}
use Rattle.ext_model.proofs.laws.store_laws.Goals as goal

pub returns : goal.returns
returns c = record {
  nearest = nearest_decides;
  absent = empty_path;
  fault_stands = met_fault_stands;
  found = put_found;
  fault_met = fault_met;
  places = places_are_told;
  others = others_stay;
  seals = seals_stay;
  seal_passes_fault = seal_passes_fault;
  claims = claims_stay;
  abandoned = abandon_undoes_claim;
}
