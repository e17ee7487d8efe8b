use Rattle.logline.specs.Labels.{german, label_in}
use Rattle.logline.proofs.put_german.Goals as goal

pub returns-in-0 : goal.returns-in-0
unfolding label_in german
returns-in-0 c = rw c.in-0.is c.put.ensures

pub returns-in-1 : goal.returns-in-1
unfolding label_in german
returns-in-1 c = rw c.in-1.is c.put-in-1.ensures

pub returns-in-2 : goal.returns-in-2
unfolding label_in german
returns-in-2 c = rw c.in-2.is c.put-in-2.ensures

pub returns-in-3 : goal.returns-in-3
unfolding label_in german
returns-in-3 c = rw c.in-3.is c.put-in-3.ensures

pub returns-in-4 : goal.returns-in-4
unfolding label_in german
returns-in-4 c = rw c.in-4.is c.put-in-4.ensures

pub returns-in-5 : goal.returns-in-5
unfolding label_in german
returns-in-5 c = rw c.in-5.is c.put-in-5.ensures

pub returns-in-6 : goal.returns-in-6
unfolding label_in german
returns-in-6 c = rw c.in-6.is c.put-in-6.ensures

pub returns-in-7 : goal.returns-in-7
unfolding label_in german
returns-in-7 c = rw c.in-7.is c.put-in-7.ensures

pub returns-in-8 : goal.returns-in-8
unfolding label_in german
returns-in-8 c = rw c.in-8.is c.put-in-8.ensures

pub returns-in-9 : goal.returns-in-9
unfolding label_in german
returns-in-9 c = rw c.in-9.is c.put-in-9.ensures

pub returns-in-10 : goal.returns-in-10
unfolding label_in german
returns-in-10 c = rw c.in-10.is c.put-in-10.ensures

pub returns-in-11 : goal.returns-in-11
unfolding label_in german
returns-in-11 c = rw c.in-11.is c.put-in-11.ensures

pub returns-in-12 : goal.returns-in-12
unfolding label_in german
returns-in-12 c = rw c.in-12.is c.put-in-12.ensures

pub returns-in-13 : goal.returns-in-13
unfolding label_in german
returns-in-13 c = rw c.in-13.is c.put-in-13.ensures

pub returns-in-14 : goal.returns-in-14
unfolding label_in german
returns-in-14 c = rw c.in-14.is c.put-in-14.ensures

pub returns-in-15 : goal.returns-in-15
unfolding label_in german
returns-in-15 c = rw c.in-15.is c.put-in-15.ensures

pub returns-in-16 : goal.returns-in-16
unfolding label_in german
returns-in-16 c = rw c.in-16.is c.put-in-16.ensures

pub returns-in-17 : goal.returns-in-17
unfolding label_in german
returns-in-17 c = rw c.in-17.is c.put-in-17.ensures

pub returns-in-18 : goal.returns-in-18
unfolding label_in german
returns-in-18 c = rw c.in-18.is c.put-in-18.ensures

pub returns-in-19 : goal.returns-in-19
unfolding label_in german
returns-in-19 c = rw c.in-19.is c.put-in-19.ensures

pub returns-in-24 : goal.returns-in-24
unfolding label_in german
returns-in-24 c = rw c.in-24.is c.put-in-24.ensures
