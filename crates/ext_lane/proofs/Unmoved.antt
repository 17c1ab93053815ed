-- What is true of a lane by which nothing was called.
use Rattle.std.proofs.Common.{[], refl}
use Rattle.ext_store.specs.Stores.{StoreId, StoreLane, IsLaneOf}
use Rattle.ext_store.specs.LaneCalls.{Grows, Stays}
use Rattle.ext_store.proofs.Frames.{no_frame, grows, stays}

pub stays_unmoved : {V : Type 0} (id : StoreId) (lane : StoreLane V) → IsLaneOf id lane → Stays id [] lane lane
stays_unmoved id lane mine = stays id [] lane lane refl refl (no_frame id lane mine)

pub grows_unmoved : {V : Type 0} (id : StoreId) (lane : StoreLane V) → IsLaneOf id lane → Grows id lane lane
grows_unmoved id lane mine = grows id lane lane (no_frame id lane mine)
