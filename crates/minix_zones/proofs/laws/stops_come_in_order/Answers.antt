use Rattle.minix_zones.proofs.StopLemmas.{order_of_stops}
use Rattle.minix_zones.proofs.laws.stops_come_in_order.Goals as goal

pub returns : goal.returns
returns c kind = order_of_stops kind
