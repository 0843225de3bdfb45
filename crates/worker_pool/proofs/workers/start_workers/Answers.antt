-- A worker's closure may go to another thread: it holds references alone, and each to what several
-- threads may use at once.
use Prim.{tt}
use mir.Syntax.{of_param}
use denote.Param.{param}
use denote.Param.Send.{Quiet-if}
use Rattle.exchange_model.proofs.Sent.{exchange_sync}
use Rattle.machine_code.proofs.code.Code.TheSendSync as Code
use Rattle.shared_store.proofs.store.SharedStore.TheSendSync as SharedStore
use Rattle.worker_pool.proofs.work_queue.WorkQueue.TheSendSync as WorkQueue
use Rattle.worker_pool.proofs.workers.start_workers.Goals as goal

pub spawn-requires-send-F : goal.spawn-requires-send-F
spawn-requires-send-F g c κs = λ _.
    let runtime = c.type_bounds.sync-R.shared in
    let queue = (WorkQueue.the_sync (param 0 g.row.B) g.B.Naming).shared in
    let exchange = exchange_sync.shared in
    let code = Code.the_sync.shared in
    let store = SharedStore.the_sync.shared in
    let gate = c.type_bounds.sync-G.shared in
    record {
      owned = λ x vs. λ parts. (
        tt,
        (
          (tt, runtime x.0.now x.0.ref_ptr.0 x.0.ref_ptr.1 _),
          (
            (tt, queue x.1.now x.1.ref_ptr.0 x.1.ref_ptr.1 _),
            (
              (tt, exchange x.2.now x.2.ref_ptr.0 x.2.ref_ptr.1 _),
              (
                (tt, code x.3.now x.3.ref_ptr.0 x.3.ref_ptr.1 _),
                (
                  (tt, store x.4.now x.4.ref_ptr.0 x.4.ref_ptr.1 _),
                  ((tt, gate x.5.now x.5.ref_ptr.0 x.5.ref_ptr.1 _), tt),
                ),
              ),
            ),
          ),
        ),
      );
      leaving = λ k. Quiet-if (k (of_param 1)) _ _ (λ x w. tt) (λ x w. tt);
    }
