-- What jobs are run with.
use Rattle.std.specs.Prelude.{◌≡◌}
use Rattle.exchange_model.specs.declared.exchange.Exchange.{Exchange}
use Rattle.machine_code.specs.Coded.{Code}
use Rattle.shared_store.specs.Seats.{StoreId}
use Rattle.worker_pool.specs.declared.means.Means.{Means}

-- the exchange, the code and the store that jobs are run with are these
abbrev pub AreMeans : Exchange → Code → StoreId → Means → Type 0
AreMeans x code store m = (m.exchange.now ≡ x) × (m.code.now ≡ code) × (m.store.now ≡ store)
