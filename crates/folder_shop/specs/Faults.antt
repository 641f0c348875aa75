-- Why there is no vehicle, by whose refusal it is.
use Rattle.bench_files.specs.declared.folder.FileFault.{FileFault}
use Rattle.bench_files.specs.declared.folder.FileFault.TheVariants as file
use Rattle.vehicle_file.specs.declared.fault.BenchFault.{BenchFault as VehicleFault}
use Rattle.vehicle_file.specs.declared.fault.BenchFault.TheVariants as vehicle
use Rattle.folder_shop.specs.declared.fault.BenchFault.{BenchFault}
use Rattle.folder_shop.specs.declared.fault.BenchFault.TheVariants.{Unread, NotJson, BadField, TooMany, NoMemory}

abbrev pub of_file : FileFault → BenchFault
of_file file.Failed = Unread
of_file file.NoMemory = NoMemory

abbrev pub of_vehicle : VehicleFault → BenchFault
of_vehicle vehicle.NotJson = NotJson
of_vehicle (vehicle.BadField path) = BadField path
of_vehicle vehicle.TooMany = TooMany
of_vehicle vehicle.NoMemory = NoMemory
