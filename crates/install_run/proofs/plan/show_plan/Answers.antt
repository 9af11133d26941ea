use Rattle.install_run.proofs.plan.show_plan.Goals as goal

pub returns-in-Missing-clause-shown : goal.returns-in-Missing-clause-shown
returns-in-Missing-clause-shown g c = rw c.in-Missing.is (rw c.bytes.ensures at c.show_line.ensures.shown)

pub returns-in-NoImagesLeft-clause-shown : goal.returns-in-NoImagesLeft-clause-shown
returns-in-NoImagesLeft-clause-shown g c = rw c.in-NoImagesLeft.is c.put.ensures.shown

pub returns-in-Header-clause-shown : goal.returns-in-Header-clause-shown
returns-in-Header-clause-shown g c = rw c.in-Header.is (rw c.bytes-in-Header.ensures at c.show_line-in-Header.ensures.shown)

pub returns-in-TooManySlots-clause-shown : goal.returns-in-TooManySlots-clause-shown
returns-in-TooManySlots-clause-shown g c = rw c.in-TooManySlots.is (rw c.from.ensures at c.show_option.ensures.shown)

pub returns-in-GeometryDiffers-clause-shown : goal.returns-in-GeometryDiffers-clause-shown
returns-in-GeometryDiffers-clause-shown g c = rw c.in-GeometryDiffers.is (rw c.from-in-GeometryDiffers.ensures at c.show_option-in-GeometryDiffers.ensures.shown)

pub returns-in-OtherIsBoot-clause-shown : goal.returns-in-OtherIsBoot-clause-shown
returns-in-OtherIsBoot-clause-shown g c = rw c.in-OtherIsBoot.is (rw c.bytes-in-OtherIsBoot.ensures at c.show_line-in-OtherIsBoot.ensures.shown)

pub returns-in-NoSignature-clause-shown : goal.returns-in-NoSignature-clause-shown
returns-in-NoSignature-clause-shown g c = rw c.in-NoSignature.is (rw c.bytes-in-NoSignature.ensures at c.show_line-in-NoSignature.ensures.shown)

pub returns-in-MessageTooLong-clause-shown : goal.returns-in-MessageTooLong-clause-shown
returns-in-MessageTooLong-clause-shown g c = rw c.in-MessageTooLong.is (rw c.from-in-MessageTooLong.ensures at c.show_numbered.ensures.shown)

pub returns-in-Tree-clause-shown : goal.returns-in-Tree-clause-shown
returns-in-Tree-clause-shown g c = rw c.in-Tree.is (rw c.bytes-in-Tree.ensures at c.show_line-in-Tree.ensures.shown)
