-- The machine's state that a controller stands for. FIFOs that hold the same words are the same: free places and the ring's head don't count.
use Rattle.fifo.specs.Held.{held}
use Rattle.machine.specs.State.{Lane, State}
use Rattle.controller.specs.declared.Lane as code
use Rattle.controller.specs.declared.Controller.{Controller}

unfoldable pub lane_of : code.Lane → Lane
lane_of l = record { words = held l.fifo; address = l.address; count = l.count.0; right = l.right }

unfoldable pub state_of : Controller → State
state_of c =
    record {
      mail = c.mail;
      marks = c.marks;
      from_pci = lane_of c.from_pci;
      from_addon = lane_of c.from_addon;
      intcsr = c.intcsr;
      mcsr = c.mcsr;
      aint = c.aint;
    }
