-- No size fault: no list of places has one.
-- Assumes nothing.
use mathlib.Core.Path.{◌≡◌}
use mathlib.Core.List.{[], map}
use lib.ListN.{drop}
use Rattle.file_law.specs.Table.{most_inputs, most_outputs}
use Rattle.meaning.specs.Declared.{Source}
use Rattle.meaning.specs.Items.{items_all, parts_of, place_of}
use Rattle.meaning.specs.Names.{gather}
use Rattle.meaning.specs.Sizes.{most_statements, most_parts, input_places, output_places, bits_from, width_fault, statement_place, item_size, size_faults}
use Rattle.meaning.proofs.Lists.{both-empty}

pub record Sized (s : Source) : Type 0 where
  pub inputs : drop most_inputs (gather input_places s.declared) ≡ []
  pub outputs : drop most_outputs (gather output_places s.declared) ≡ []
  pub bits : bits_from 0 s.declared ≡ []
  pub widths : gather width_fault s.declared ≡ []
  pub statements : drop most_statements (gather statement_place (items_all s.body)) ≡ []
  pub parts : drop most_parts (map place_of (parts_of (items_all s.body))) ≡ []
  pub delays_and_activities : gather item_size (items_all s.body) ≡ []

pub sized : (s : Source) → size_faults s ≡ [] → Sized s
unfolding size_faults
sized s e =
    let (i, e1) = both-empty (drop most_inputs (gather input_places s.declared)) _ e in
    let (o, e2) = both-empty (drop most_outputs (gather output_places s.declared)) _ e1 in
    let (b, e3) = both-empty (bits_from 0 s.declared) _ e2 in
    let (w, e4) = both-empty (gather width_fault s.declared) _ e3 in
    let (t, e5) = both-empty (drop most_statements (gather statement_place (items_all s.body))) _ e4 in
    let (p, e6) = both-empty (drop most_parts (map place_of (parts_of (items_all s.body)))) _ e5 in
    record { inputs = i; outputs = o; bits = b; widths = w; statements = t; parts = p; delays_and_activities = e6 }
