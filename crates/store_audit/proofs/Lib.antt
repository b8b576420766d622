mod Walking
mod Comments
mod Lines
mod Sorted
mod Ending
